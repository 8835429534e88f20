-- Tables of any size: where the used rows are those of tables that pass, and there is a row for each of them, the audit passes too. Assumes nothing.
use Rattle.numbers.specs.Library.{ℕ, List}
use Rattle.rows.specs.declared.header.Header.{Header}
use Rattle.rules.specs.Prelude.{Atlas, Stores, room_in, WellFormed, Passes, atlas_in}
use Rattle.laws.specs.Same.{SameUsed}
use Rattle.laws.proofs.Stored.Reading.{lies_alike, formed, passes}
use Rattle.image_promises.specs.Promises.{HasRows}

module _ (h : Header) (S S' I I' : List ℕ) (same : SameUsed h h S S' I I') (has : HasRows h S' I') (p : Passes h S I) where
  abbrev a : Atlas
  a = atlas_in h S I

  -- the atlas lies in used rows only
  lies : Stores h S' I' a
  lies = lies_alike h S S' I I' same p

  -- and of the size its rules ask for those rows alone
  keeps : WellFormed (room_in S' I') a
  unfolding room_in atlas_in
  keeps =
      let before : WellFormed (room_in S I) a = formed h S I p in
      record {
        sound = record {
          in_room = record { shelves = has.shelf_room; items = has.item_room };
          free_listed = before.sound.free_listed;
          shelf_rows = before.sound.shelf_rows;
          item_rows = before.sound.item_rows;
        };
        shaped = before.shaped;
      }

  pub passes_there : Passes h S' I'
  passes_there = passes h S' I' a lies keeps
