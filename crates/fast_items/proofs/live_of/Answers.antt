-- `live_of`: four 16-bit numbers side by side.
use Rattle.std.specs.Prelude.{◌+◌, ◌*◌, ◌≤◌, ◌≡◌}
use Rattle.numbers.specs.Library.{ℕ, eqb, eqb-true, eq-eqb, arith}
use Rattle.numbers.specs.Prelude.{Decides}
use Rattle.rows.specs.declared.item.ItemRow.{ItemRow}
use Rattle.audit_counts.specs.Fast.{LiveOf}
use Rattle.fast_items.proofs.live_of.Goals as goal

side_by_side : (on tail : ℕ) (i : ItemRow) → on ≤ 65535 → i.prev_unallocated.0 ≤ 65535 → i.next_unallocated.0 ≤ 65535 → i.shelf.0 ≤ 65535
    → tail ≡ i.prev_unallocated.0 + i.next_unallocated.0 * 65536 + i.shelf.0 * 4294967296 + i.allocated * 281474976710656
    → Decides (eqb tail (281479271677951 + on * 4294967296)) (LiveOf on i)
side_by_side on tail i b p n s is = record {
  sound = λ t.
      let e = eqb-true tail (281479271677951 + on * 4294967296) t in
      record { named = omega (arith, e); is_live = omega (arith, e); prev_none = omega (arith, e); next_none = omega (arith, e) };
  complete = λ f. eq-eqb tail (281479271677951 + on * 4294967296) (omega (arith, f.named, f.is_live, f.prev_none, f.next_none));
}

pub returns : goal.returns
returns c = side_by_side _ _ _ (omega arith) (omega arith) (omega arith) (omega arith) c.tail_of.ensures
