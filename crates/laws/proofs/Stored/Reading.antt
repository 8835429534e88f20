-- The audit's seven rules over header and tables, and an atlas that lies there and keeps its rules, are one thing said twice; and such an atlas
-- and the numbers that the audit reads tell each other. These are the statements that other crates cite. Assumes nothing.
use Rattle.std.specs.Prelude.{◌≡◌}
use Rattle.numbers.specs.Library.{ℕ, List}
use Rattle.rows.specs.declared.header.Header.{Header}
use Rattle.rules.specs.Prelude.{Atlas, Room, Stores, room_in, WellFormed, atlas_in, Rule1, Rule2, Rule3, Rule4, Passes}
use Rattle.laws.specs.Same.{SameUsed, SameRead, SameVerdict}
use Rattle.laws.proofs.Stored.Once as once
use Rattle.laws.proofs.Stored.FromRules as from-rules
use Rattle.laws.proofs.Stored.ToRules as to-rules
use Rattle.laws.proofs.Stored.Unique as unique-atlas
use Rattle.laws.proofs.Stored.Determined as determined-rows
use Rattle.laws.proofs.Stored.NeverRead as never_read
-- tables with the same used rows, alike elsewhere, are the same
pub use Rattle.laws.proofs.Stored.Determined.{same_shelves, same_items}
-- the atlas that is met in tables that pass lies in any tables with the same used rows
pub use Rattle.laws.proofs.Stored.NeverRead.{lies_alike}

module _ (h : Header) (S I : List ℕ) where
  -- the atlas that is met in tables that pass lies there, and keeps its rules
  pub reads : Passes h S I → Stores h S I (atlas_in h S I)
  reads p = from-rules.reads h S I p

  pub formed : Passes h S I → WellFormed (room_in S I) (atlas_in h S I)
  formed p = from-rules.formed h S I p

  -- an atlas that lies in tables and keeps its rules is the one that is met there
  pub unique : (a : Atlas) → Stores h S I a → WellFormed (room_in S I) a → a ≡ atlas_in h S I
  unique a l k = unique-atlas.unique h S I a l k

  -- where there is such an atlas, the audit passes
  pub passes : (a : Atlas) → Stores h S I a → WellFormed (room_in S I) a → Passes h S I
  passes a l k = to-rules.passes_read h S I (rw (unique a l k) at l) (rw (unique a l k) at k)

  -- rule 4 follows from the rules before it
  pub no_row_twice : Rule1 h S I → Rule2 h S I → Rule3 h S I → Rule4 h S I
  no_row_twice one two three = once.no_row_twice one two three

-- an atlas says every number that an audit of tables in which it lies reads
pub determined : (h h' : Header) (S S' I I' : List ℕ) (room : Room) (a : Atlas) → Stores h S I a → Stores h' S' I' a → WellFormed room a → SameUsed h h' S S' I I'
determined h h' S S' I I' room a l l' k = determined-rows.determined h h' S S' I I' room a l l' k

-- "Numbers after the used rows are never read": tables that differ in such numbers only get the same verdict, and the same atlas is met there
module _ (h : Header) (S S' I I' : List ℕ) (same : SameRead h S S' I I') where
  pub same_verdict : SameVerdict h S S' I I'
  same_verdict = never_read.same_verdict h S S' I I' same

  pub same_atlas : Passes h S I → atlas_in h S I ≡ atlas_in h S' I'
  same_atlas p = never_read.same_atlas h S S' I I' same p
