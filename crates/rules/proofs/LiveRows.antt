-- The rows of live items, and of free ones, are rows of items; none is both. Assumes nothing.
use Rattle.std.specs.Prelude.{◌∷◌}
use Rattle.numbers.specs.Library.{ℕ, Bool, true, false, List, [], List·Memᴰ·not-nil}
use Rattle.numbers.specs.Prelude.{pick}
use Rattle.chains.specs.Prelude.{◌∈◌, Distinct, Apart}
use Rattle.chains.proofs.Prelude.{within, parts_apart}
use Rattle.rules.specs.Prelude.{Item, live_rows, free_rows, item_rows_of}

pub a_live : (b : Bool) (x r : ℕ) → r ∈ pick b (x ∷ []) [] → r ∈ (x ∷ [])
a_live true x r m = m
a_live false x r m = absurd (List·Memᴰ·not-nil m)

pub a_free : (b : Bool) (x r : ℕ) → r ∈ pick b [] (x ∷ []) → r ∈ (x ∷ [])
a_free true x r m = absurd (List·Memᴰ·not-nil m)
a_free false x r m = m

not_both : (b : Bool) (x : ℕ) → Apart (pick b (x ∷ []) []) (pick b [] (x ∷ []))
not_both true x r m k = List·Memᴰ·not-nil k
not_both false x r m k = List·Memᴰ·not-nil m

pub live_row : (items : List Item) (r : ℕ) → r ∈ live_rows items → r ∈ item_rows_of items
live_row = within (λ i. pick i.live (i.row ∷ []) []) (λ i. i.row ∷ []) (λ i r. a_live i.live i.row r)

pub free_row : (items : List Item) (r : ℕ) → r ∈ free_rows items → r ∈ item_rows_of items
free_row = within (λ i. pick i.live [] (i.row ∷ [])) (λ i. i.row ∷ []) (λ i r. a_free i.live i.row r)

pub live_free : (items : List Item) → Distinct (item_rows_of items) → Apart (live_rows items) (free_rows items)
live_free = parts_apart _ _ _ (λ i r. a_live i.live i.row r) (λ i r. a_free i.live i.row r) (λ i. not_both i.live i.row)
