-- `is_freed_item` compares some of a row's numbers together: each is zero where they are.
use Rattle.std.specs.Prelude.{◌+◌, ◌*◌, ◌≡◌}
use Rattle.numbers.specs.Library.{ℕ, eqb, eqb-true, eq-eqb, arith}
use Rattle.numbers.specs.Prelude.{Decides, refuted}
use Rattle.rows.specs.declared.item.ItemRow.{ItemRow}
use Rattle.pool.specs.Pool.{FreedItem}
use Rattle.pool.specs.PoolLaws.{freed_item, item_sum}
use Rattle.pool.proofs.is_freed_item.Goals as goal

none_left : (v : ItemRow) → FreedItem v → item_sum v ≡ 0
none_left v f = eqb-true _ _ ((freed_item v).complete f)

left-none : (v : ItemRow) → item_sum v ≡ 0 → FreedItem v
left-none v e = (freed_item v).sound (eq-eqb _ _ e)

-- the last test, where the numbers before the tail are zero
last-test : (v : ItemRow) (tail : ℕ) → v.x + v.width * 65536 ≡ 0 → v.prev.0 ≡ 0
    → tail ≡ v.prev_unallocated.0 + v.next_unallocated.0 * 65536 + v.shelf.0 * 4294967296 + v.allocated * 281474976710656 → Decides (eqb tail 0) (FreedItem v)
last-test v tail front prev e = record {
  sound = λ t. left-none v (omega (arith, eqb-true tail 0 t));
  complete = λ f. eq-eqb tail 0 (omega (arith, none_left v f));
}

pub returns-then-v-ne0 : goal.returns-then-v-ne0
returns-then-v-ne0 c = refuted (λ f. c.if-v-ne0.true (omega (arith, none_left _ f)))

pub returns-then-v-ne0-2 : goal.returns-then-v-ne0-2
returns-then-v-ne0-2 c = refuted (λ f. c.if-v-ne0-2.true (omega (arith, none_left _ f)))

pub returns : goal.returns
returns c = last-test _ _ (omega arith) (omega arith) c.tail_of.ensures
