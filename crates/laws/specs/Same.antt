-- Two states alike in all that an audit reads: the header, and the used rows of both tables; and what is the same for both. Assumes nothing.
use Rattle.std.specs.Prelude.{◌<◌, ◌≡◌}
use Rattle.numbers.specs.Library.{ℕ, List, length}
use Rattle.rows.specs.Prelude.{get, items, shelves}
use Rattle.rows.specs.declared.header.Header.{Header}
use Rattle.chains.specs.Prelude.{◌iff◌}
use Rattle.rules.specs.Prelude.{Rule1, Rule2, Rule3, Passes, PassesForClear}

pub record SameUsed (h h' : Header) (S S' I I' : List ℕ) : Type 0 where
  pub header : h ≡ h'
  pub shelf_rows : (r : ℕ) → r < h.used_shelves → get shelves S r ≡ get shelves S' r
  pub item_rows : (r : ℕ) → r < h.used_items → get items I r ≡ get items I' r

-- "Numbers after the used rows are never read": tables of the same lengths that differ in such numbers only.
pub record SameRead (h : Header) (S S' I I' : List ℕ) : Type 0 where
  pub used : SameUsed h h S S' I I'
  pub shelves_long : length S ≡ length S'
  pub items_long : length I ≡ length I'

-- Each rule holds for both or for neither, where the rules before it hold; so an audit that tells the first rule that fails tells the same of both.
pub record SameVerdict (h : Header) (S S' I I' : List ℕ) : Type 0 where
  pub rule1 : Rule1 h S I iff Rule1 h S' I'
  pub rule2 : (Rule1 h S I × Rule2 h S I) iff (Rule1 h S' I' × Rule2 h S' I')
  pub rule3 : (Rule1 h S I × Rule2 h S I × Rule3 h S I) iff (Rule1 h S' I' × Rule2 h S' I' × Rule3 h S' I')
  pub passes : Passes h S I iff Passes h S' I'
  pub for_clear : PassesForClear h S I iff PassesForClear h S' I'
