use Rattle.std.specs.Prelude.{◌*◌, ◌≤◌, ◌<◌, ◌≡◌}
use Rattle.numbers.specs.Library.{List, ℕ, rules, arith}
use Rattle.rows.specs.Prelude.{rows, rows_fit, rows_few, get_there, items, item_start}
use Rattle.rows.proofs.item.item_from.Goals as goal

starts-below : (l : List ℕ) (at start : ℕ) → at < rows items l → start ≡ item_start at → start ≤ 65535 * 9
unfolding item_start
starts-below l at start b e = omega (arith, rows_few items l)

pub overflow_add-end : goal.overflow_add-end
unfolding items item_start
overflow_add-end c = omega (arith, starts-below _ _ _ c.requires.0 c.requires.1)

pub offset_bounds-items-start : goal.offset_bounds-items-start
unfolding items item_start
offset_bounds-items-start c = omega (arith, starts-below _ _ _ c.requires.0 c.requires.1)

pub slice_bounds-read-count : goal.slice_bounds-read-count
unfolding items item_start
slice_bounds-read-count c = search rules

pub slice_bounds-read-start : goal.slice_bounds-read-start
unfolding items item_start
slice_bounds-read-start c = search rules

pub slice_bounds-read-end : goal.slice_bounds-read-end
unfolding items item_start
slice_bounds-read-end c = omega (arith, rows_fit items _ _ c.requires.0, c.requires.1)

pub read-requires : goal.read-requires
unfolding items item_start
read-requires c = search rules

pub returns : goal.returns
unfolding items item_start
returns c = rw (c.read.ensures, c.requires.1) (get_there items _ _ c.requires.0)
