-- Document 01's whole case and its run examples, computed; then runs that a rule slightly other than 01's would answer otherwise. The answers to these
-- are the Rust's, but for the tables that fill up. Assumes nothing.
use Rattle.std.specs.Prelude.{◌≡◌, ◌∷◌}
use Rattle.numbers.specs.Library.{ℕ, refl, List, [], none, ℤ, pos, negsuc}
use Rattle.numbers.specs.declared.limits.Limits.{Limits}
use Rattle.rows.specs.declared.live.Live.{Live}
use Rattle.rules.specs.Atlas.{Room, fresh}
use Rattle.rules.specs.Grant.{new_generation}
use Rattle.rules.specs.Calls.{size_x, size_y}
use Rattle.rules.specs.Outcome.{Outcome, refused, gives}
use Rattle.rules.specs.Step.{Call, Create, Allocate, Release, LookUp, ListIn, Clear, Totals, Value, columns_made, item, done, items, space, run}

-- the script program's tables, and smaller ones
room : Room
room = record { shelves = 512; items = 2048 }

rows_for : ℕ → ℕ → Room
rows_for s i = record { shelves = s; items = i }

-- the script's lines
abbrev create : ℤ → ℤ → ℤ → ℤ → ℤ → ℤ → Call
create = Create

n : ℕ → ℕ → ℕ → ℕ → ℕ → ℕ → Call
n w h aw ah v c = Create (pos w) (pos h) (pos aw) (pos ah) (pos v) (pos c)

abbrev ask : ℤ → ℤ → Call
ask = Allocate

a : ℕ → ℕ → Call
a w h = Allocate (pos w) (pos h)

abbrev r : ℕ → ℕ → Call
r = Release

abbrev g : ℕ → ℕ → Call
g = LookUp

abbrev s : Call
s = Totals

abbrev l : Call
l = ListIn 65535

abbrev c : Call
c = Clear

-- its answers
abbrev no : ℕ → Outcome Value
no = refused

abbrev ok : Outcome Value
ok = gives done

abbrev made : ℕ → Outcome Value
made columns = gives (columns_made columns)

abbrev at : Live → Outcome Value
at v = gives (item v)

abbrev total : ℕ → ℕ → Outcome Value
total occupied free = gives (space occupied free)

abbrev lives : List Live → Outcome Value
lives ls = gives (items ls)

live : ℕ → ℕ → ℕ → ℕ → ℕ → ℕ → Live
live row generation x0 y0 x1 y1 = record { row = row; generation = generation; x0 = x0; y0 = y0; x1 = x1; y1 = y1 }

-- the limits of an atlas, 2000 along and 1000 deep
of_size : ℕ → Limits
of_size v = record { width = 2000; height = 1000; align_width = 1; align_height = 1; vertical = v; shelf_width = 2000 }

answers : List Call → List (Outcome Value)
unfolding run room
answers = run room none

whole_case : answers (n 2048 2048 4 8 0 2 ∷ a 20 30 ∷ a 30 40 ∷ a 20 30 ∷ r 0 1 ∷ s ∷ l ∷ [])
    ≡ made 2 ∷ at (live 0 1 0 0 20 32) ∷ at (live 2 1 0 32 32 80) ∷ at (live 3 1 20 0 40 32) ∷ ok ∷ total 2176 4192128
    ∷ lives (live 2 1 0 32 32 80 ∷ live 3 1 20 0 40 32 ∷ []) ∷ []
unfolding answers n a live
whole_case = refl

-- releasing all in order and asking 20 x 30 twice gives ids (0,1) and (3,2)
ids_again : answers (n 2048 2048 4 8 0 2 ∷ a 20 30 ∷ a 30 40 ∷ a 20 30 ∷ r 0 1 ∷ r 2 1 ∷ r 3 1 ∷ a 20 30 ∷ a 20 30 ∷ [])
    ≡ made 2 ∷ at (live 0 1 0 0 20 32) ∷ at (live 2 1 0 32 32 80) ∷ at (live 3 1 20 0 40 32) ∷ ok ∷ ok ∷ ok
    ∷ at (live 0 1 0 0 20 32) ∷ at (live 3 2 20 0 40 32) ∷ []
unfolding answers n a live
ids_again = refl

-- the first bad fit is taken where nothing else fits
bad_fit_lem : answers (n 1000 1000 1 1 0 1 ∷ a 100 1000 ∷ a 900 200 ∷ []) ≡ made 1 ∷ at (live 0 1 0 0 100 1000) ∷ at (live 1 1 100 0 1000 1000) ∷ []
unfolding answers n a live
bad_fit_lem = refl

-- the limits
largest : run (rows_for 1 1) none (n 65535 32768 1 1 0 1 ∷ n 65535 32769 1 1 0 1 ∷ n 1 65527 1 1 0 1 ∷ n 1 65528 1 1 0 1 ∷ [])
    ≡ made 1 ∷ no 1 ∷ made 1 ∷ no 1 ∷ []
unfolding run rows_for n
largest = refl

-- with vertical shelves x and y change places, on the way in and on the way out
vertical : answers (n 2000 1000 8 16 1 1 ∷ a 20 30 ∷ g 0 1 ∷ g 0 2 ∷ []) ≡ made 1 ∷ at (live 0 1 0 0 24 32) ∷ at (live 0 1 0 0 24 32) ∷ no 8 ∷ []
unfolding answers n a live
vertical = refl

-- a flag that is neither 0 nor 1 is judged after the sizes
flags : answers (create (pos 10) (pos 0) (pos 1) (pos 1) (pos 2) (pos 1) ∷ n 10 10 1 1 2 1 ∷ create (negsuc 0) (pos 1) (pos 1) (pos 1) (pos 0) (pos 1) ∷ [])
    ≡ no 1 ∷ no 2 ∷ no 1 ∷ []
unfolding answers n
flags = refl

-- the checks of a request in their order: 4 on the raw sides, 5 on the aligned ones, 6 where nothing fits
refusals : answers (ask (pos 0) (pos 0) ∷ n 100 40 8 1 0 1 ∷ ask (pos 0) (pos 70000) ∷ a 97 1 ∷ a 1 41 ∷ a 90 40 ∷ a 8 1 ∷ [])
    ≡ no 3 ∷ made 1 ∷ no 4 ∷ no 5 ∷ no 5 ∷ at (live 0 1 0 0 96 40) ∷ no 6 ∷ []
unfolding answers n a live
refusals = refl

-- too few rows: the split needs one more than there is, though the next request needs none
too_few : run (rows_for 1 1) none (n 100 16 1 1 0 1 ∷ a 10 16 ∷ a 100 16 ∷ n 100 16 1 1 0 2 ∷ []) ≡ made 1 ∷ no 7 ∷ at (live 0 1 0 0 100 16) ∷ no 7 ∷ []
unfolding run rows_for n a live
too_few = refl

-- clear gives a fresh atlas again
cleared : answers (n 64 64 1 1 0 1 ∷ a 64 64 ∷ s ∷ c ∷ s ∷ l ∷ a 64 64 ∷ [])
    ≡ made 1 ∷ at (live 0 1 0 0 64 64) ∷ total 4096 0 ∷ ok ∷ total 0 4096 ∷ lives [] ∷ at (live 0 1 0 0 64 64) ∷ []
unfolding answers n a live
cleared = refl

-- ---- what shuts out a rule slightly other than 01's

-- Shuts out: a released item at the back of the free list, or one merged into moved in it; the last, the narrowest, the widest or the leftmost item
-- that is wide enough in place of the first in the list; no merge with the next item, or one that leaves its row in the list.
front_of_the_list : answers (n 60 8 1 1 0 1 ∷ a 16 8 ∷ a 20 1 ∷ a 12 1 ∷ r 0 1 ∷ r 2 1 ∷ a 15 8 ∷ r 1 1 ∷ a 8 8 ∷ a 36 8 ∷ l ∷ a 9 8 ∷ [])
    ≡ made 1 ∷ at (live 0 1 0 0 16 8) ∷ at (live 1 1 16 0 36 8) ∷ at (live 2 1 36 0 48 8) ∷ ok ∷ ok ∷ at (live 2 1 36 0 51 8) ∷ ok
    ∷ at (live 3 2 51 0 60 8) ∷ at (live 0 1 0 0 36 8) ∷ lives (live 0 1 0 0 36 8 ∷ live 2 1 36 0 51 8 ∷ live 3 2 51 0 60 8 ∷ []) ∷ no 6 ∷ []
unfolding answers n a live
front_of_the_list = refl

-- Shuts out: the rest of a split item at the front or at the back of the free list.
rest_in_its_place : answers (n 100 16 1 1 0 1 ∷ a 20 7 ∷ a 33 16 ∷ r 0 1 ∷ a 30 8 ∷ a 2 8 ∷ a 8 16 ∷ a 2 16 ∷ [])
    ≡ made 1 ∷ at (live 0 1 0 0 20 16) ∷ at (live 1 1 20 0 53 16) ∷ ok ∷ at (live 2 1 53 0 83 16) ∷ at (live 0 1 0 0 2 16) ∷ at (live 4 1 2 0 10 16)
    ∷ at (live 5 1 10 0 20 16) ∷ []
unfolding answers n a live
rest_in_its_place = refl

-- Shuts out: the previous shelf merged before the next; a merge with a shelf of another column, with one in use, or with none; freed rows not used
-- again, or the earliest first; a generation kept, or raised twice; a new shelf before the one it is split from, or at the end of the chain.
shelf_merges : answers (n 20 40 1 1 0 2 ∷ a 5 8 ∷ a 2 1 ∷ a 3 24 ∷ r 3 1 ∷ r 0 1 ∷ r 2 1 ∷ a 2 24 ∷ a 10 8 ∷ [])
    ≡ made 2 ∷ at (live 0 1 0 0 10 8) ∷ at (live 2 1 0 8 10 16) ∷ at (live 3 1 0 16 10 40) ∷ ok ∷ ok ∷ ok ∷ at (live 0 1 0 0 10 24)
    ∷ at (live 2 2 0 24 10 40) ∷ []
unfolding answers n a live
shelf_merges = refl

-- Shuts out: the best or the last bad fit in place of the first; one that bounds or ends the walk; one that a good fit does not replace; an empty shelf
-- taken for a bad fit.
first_bad_fit : answers (n 40 72 1 1 0 2 ∷ a 10 63 ∷ a 8 1 ∷ a 2 64 ∷ a 10 32 ∷ a 6 63 ∷ a 6 16 ∷ [])
    ≡ made 2 ∷ at (live 0 1 0 0 10 72) ∷ at (live 1 1 20 0 28 8) ∷ at (live 3 1 20 8 22 72) ∷ at (live 2 1 10 0 20 72) ∷ at (live 5 1 22 8 28 72)
    ∷ at (live 6 1 28 8 40 72) ∷ []
unfolding answers n a live
first_bad_fit = refl

-- Shuts out: a bad fit in place of a good fit held; a shelf in use of depth D + D/2 as a bad fit; a good fit that a shallower one does not replace.
good_fit_kept : answers (n 40 40 1 1 0 2 ∷ a 11 40 ∷ a 5 23 ∷ r 0 1 ∷ a 10 1 ∷ a 15 16 ∷ a 1 8 ∷ [])
    ≡ made 2 ∷ at (live 0 1 0 0 11 40) ∷ at (live 1 1 20 0 25 24) ∷ ok ∷ at (live 3 1 20 24 30 40) ∷ at (live 4 1 25 0 40 24) ∷ at (live 0 1 0 0 1 8) ∷ []
unfolding answers n a live
good_fit_kept = refl

-- Shuts out: a shelf or an item split at a remainder of 8, or not split at 9; a shelf in use split.
remainders : answers (n 32 41 1 1 0 2 ∷ a 8 25 ∷ r 0 1 ∷ a 16 41 ∷ a 7 33 ∷ a 8 25 ∷ [])
    ≡ made 2 ∷ at (live 0 1 0 0 16 32) ∷ ok ∷ at (live 0 1 0 0 16 41) ∷ at (live 1 1 16 0 23 41) ∷ at (live 2 2 23 0 32 41) ∷ []
unfolding answers n a live
remainders = refl

-- Shuts out: a depth rounded before it is aligned; a corner not turned with vertical shelves.
aligned_first : answers (n 60 60 1 5 0 1 ∷ a 8 3 ∷ n 64 60 5 1 1 1 ∷ a 3 8 ∷ a 3 8 ∷ [])
    ≡ made 1 ∷ at (live 0 1 0 0 8 8) ∷ made 1 ∷ at (live 0 1 0 0 8 8) ∷ at (live 2 1 0 8 8 16) ∷ []
unfolding answers n a live
aligned_first = refl

-- Shuts out: an id that names an item of another generation, a free one, or one released before; an atlas that outlives a refused create.
dead_ids : answers (n 20 8 1 1 0 1 ∷ a 8 8 ∷ g 1 1 ∷ r 0 2 ∷ r 0 1 ∷ r 0 1 ∷ s ∷ n 10 10 1 1 0 11 ∷ a 1 1 ∷ [])
    ≡ made 1 ∷ at (live 0 1 0 0 8 8) ∷ no 8 ∷ no 8 ∷ ok ∷ no 8 ∷ total 0 160 ∷ no 2 ∷ no 3 ∷ []
unfolding answers n a live
dead_ids = refl

-- Shuts out: a create or a shelf split that is short of rows of one table; two splits that count as one; freed rows that do not count, or are not freed.
rows_again :
    (run (rows_for 2 2) none (n 20 40 1 1 0 1 ∷ a 8 8 ∷ a 20 8 ∷ a 20 8 ∷ r 0 1 ∷ a 20 8 ∷ [])
    ≡ made 1 ∷ no 7 ∷ at (live 0 1 0 0 20 8) ∷ no 7 ∷ ok ∷ at (live 0 1 0 0 20 8) ∷ [])
    × (run (rows_for 1 2) none (n 20 40 1 1 0 1 ∷ a 20 8 ∷ n 20 40 1 1 0 2 ∷ []) ≡ made 1 ∷ no 7 ∷ no 7 ∷ [])
    × (run (rows_for 2 1) none (n 20 40 1 1 0 1 ∷ a 20 8 ∷ n 20 40 1 1 0 2 ∷ []) ≡ made 1 ∷ no 7 ∷ no 7 ∷ [])
unfolding run rows_for n a live
rows_again = (refl, refl, refl)

-- Shuts out: a generation that does not wrap from 65535 to 0.
wraps : new_generation (record { used = 2; freed = record { row = 1; generation = 65535 } ∷ [] }) ≡ 0
unfolding new_generation
wraps = refl

-- Shuts out: sizes that change places where shelves are not vertical, or not where they are.
sizes : (size_x (fresh (of_size 0)) ≡ 2000) × (size_y (fresh (of_size 0)) ≡ 1000) × (size_x (fresh (of_size 1)) ≡ 1000) × (size_y (fresh (of_size 1)) ≡ 2000)
unfolding of_size size_x size_y fresh
sizes = (refl, refl, refl, refl)
