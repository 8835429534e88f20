-- What other files bring from the specs of `rules`, in one place. It states nothing of its own. Assumes nothing.
pub use Rattle.rules.specs.Atlas.{Item, free_item, resized, Shelf, Freed, Pool, Rows, Atlas, Room}
unfoldable pub use Rattle.rules.specs.Atlas.{is_empty_of, live_area, occupied, fresh_shelf, fresh_shelves, fresh}
pub use Rattle.rules.specs.Outcome.{Outcome, refused, gives, Given, standing}
unfoldable pub use Rattle.rules.specs.Outcome.{mapped}
pub use Rattle.rules.specs.Search.{Held, nothing, good, bad}
unfoldable pub use Rattle.rules.specs.Search.{width_of, first_wide, passed_by, is_bad_fit, holds_any, tried, looked, is_exact, walk, search}
pub use Rattle.rules.specs.Grant.{grants}
unfoldable pub use Rattle.rules.specs.Grant.{new_row, new_generation, taken, new_item_row, shelf_taken, item_taken, splits_shelf, upper_part, lower_part}
unfoldable pub use Rattle.rules.specs.Grant.{splits_item, granted_item, rest_of, replace_row, holding, grant_whole, grant_part, rows_left_of, too_few_rows, live_of}
unfoldable pub use Rattle.rules.specs.Grant.{grant_item, grant_in_shelf, find_item, grant_row, grant}
pub use Rattle.rules.specs.Release.{Loose, Stack, Found}
unfoldable pub use Rattle.rules.specs.Release.{freeing, free_item_row, free_shelf_row, free_shelf, free_with, merge_next, merge_into, deeper, joins, merge_below}
unfoldable pub use Rattle.rules.specs.Release.{merge_above, find, names, find_live, release_found}
pub use Rattle.rules.specs.Stores.{flag, item, free, no_links, shelf, freed_shelf, freed_item_of, live_rows, free_rows, Holds, Stores}
unfoldable pub use Rattle.rules.specs.Stores.{header_of, room_in}
pub use Rattle.rules.specs.WellFormed.{NotBothEmpty, NotBothFree, shelf_rows_of, item_rows_of, all_item_rows, freed_rows, FreeListed, AllListed, Shared, Sound}
pub use Rattle.rules.specs.WellFormed.{Shaped, WellFormed}
unfoldable pub use Rattle.rules.specs.WellFormed.{Stacked, Filled}
pub use Rattle.rules.specs.Audit.{shelf_next, item_next, free_next, Rule1, Down, ShelfRight, at_top_of, AllColumns, Along, ItemRight, at_left_of, Rule4}
pub use Rattle.rules.specs.Audit.{FreeListRight, FreedRight, Rule6, sum_over, Rule7, Passes, PassesForClear}
unfoldable pub use Rattle.rules.specs.Audit.{shelves_met, items_met, free_met, all_items_met, freed_shelves_met, freed_items_met, one_free_of, down, Rule2, along}
unfoldable pub use Rattle.rules.specs.Audit.{ItemsRight, Rule3, Rule5, area_met, item_in_of, shelf_in, freed_in, atlas_in}
unfoldable pub use Rattle.rules.specs.Calls.{make_within, make, allocate, release, look_up, live_in, lives_below, list, list_in, free_space, size_x, size_y}
unfoldable pub use Rattle.rules.specs.Calls.{all_empty, clear}
pub use Rattle.rules.specs.Step.{Call, Create, Allocate, Release, LookUp, ListIn, Clear, Occupied, FreeSpace, Size, IsEmpty, Totals, NoSuchId, Unreadable}
pub use Rattle.rules.specs.Step.{Value, columns_made, done, items, count, area, space, sides, vacant, told_of}
unfoldable pub use Rattle.rules.specs.Step.{tells, made_of, step_in, step_without, step, answer_numbers, is_create, atlas_after, run}
pub use Rattle.rules.specs.Promise.{Unchanged, Becomes, passes, Answering, Answers, Judged, fails, Comes}
unfoldable pub use Rattle.rules.specs.Promise.{header_kept, Leaves, Asks, Promise}
unfoldable pub use Rattle.rows.specs.Live.{live_numbers}
