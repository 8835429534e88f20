-- Tables that pass the audit can be walked by a search: rule 1 has the used rows fit, and by rules 2 and 5 the shelf chain and each free list end among
-- them. Assumes nothing.
use Rattle.numbers.specs.Library.{ℕ, List}
use Rattle.rows.specs.Prelude.{get, shelves}
use Rattle.rows.specs.declared.header.Header.{Header}
use Rattle.chains.specs.Prelude.{EndsFrom}
use Rattle.chains.proofs.Prelude.{each_map}
use Rattle.rules.specs.Prelude.{FreeListRight, shelves_met, free_next, Rule2, Rule5, Passes}
use Rattle.search.specs.Walkable.{Walkable}

pub walkable : {h : Header} {S I : List ℕ} → Passes h S I → Walkable h S I
unfolding Rule2 Rule5 shelves_met
walkable {h} {S} {I} p = record {
  shelves_fit = p.rule1.shelves_fit;
  items_fit = p.rule1.items_fit;
  chain_ends = record { starts = p.rule2.starts; ends = p.rule2.ends };
  lists_end =
      each_map (FreeListRight h S I) (λ r. EndsFrom (free_next I) h.used_items (get shelves S r).first_unallocated.0)
      (λ r f. record { starts = f.linked.starts; ends = f.linked.ends }) (shelves_met h S) p.rule5;
}
