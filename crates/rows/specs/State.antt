-- A header and two tables taken together, for the steps that change all three. Assumes nothing.
use Rattle.std.specs.Prelude.{◌≡◌}
use Rattle.numbers.specs.Library.{ℕ, List}
use Rattle.rows.specs.declared.{header.Header.Header, tables.Tables.Tables}

pub record State : Type 0 where
  pub header : Header
  pub shelves : List ℕ
  pub items : List ℕ

abbrev pub state : Header → List ℕ → List ℕ → State
state h S I = record { header = h; shelves = S; items = I }

-- what stands in an atlas's header and tables
abbrev pub state_of : Tables → State
state_of t = state t.header t.shelves.now t.items.now

-- they are the tables that were lent before
abbrev pub StillLent : Tables → Tables → Type 0
StillLent t t' = (t'.shelves.ghost_name ≡ t.shelves.ghost_name) × (t'.items.ghost_name ≡ t.items.ghost_name)
