-- What other files bring from the specs of `rows`, in one place. It states nothing of its own. Assumes nothing.
pub use Rattle.rows.specs.Part.{each_all, sets_all}
pub use Rattle.rows.specs.Row.{Shape, rows, rest, get, put, rows_are, rows_long, rows_few, rows_fit, fit_rows, has_rows_lem, length-put, rows-put, get_out, get_none}
pub use Rattle.rows.specs.Row.{get-short, get_there, get_part, put_none, put-short, put_part, put_there, get-put_same, get-put_other, rest_put, same_rows, put-put}
pub use Rattle.rows.specs.Change.{change, change-is, length-change, rows-change, get-change_other, get-put_there, get-change_there, unseen}
pub use Rattle.rows.specs.Past.{Past, past_same, past_put, past_change, past_more, past_then}
pub use Rattle.rows.specs.Header.{zero_header}
unfoldable pub use Rattle.rows.specs.Header.{with_limits, with_used_shelves, with_used_items, with_free_items, with_free_shelves, with_occupied}
pub use Rattle.rows.specs.Shelf.{numbers_of, shelf_of, zero_shelf, shelf_capacity, shelf_at_of, put_shelf, change_shelf}
unfoldable pub use Rattle.rows.specs.Shelf.{shelves, with_shelf_x, with_y, with_height, with_shelf_prev, with_shelf_next, with_first_item, with_first_free, with_empty}
pub use Rattle.rows.specs.Item.{item_of, zero_item, item_capacity, item_at, put_item, change_item}
unfoldable pub use Rattle.rows.specs.Item.{items, with_item_x, with_width, with_item_prev, with_item_next, with_prev_free, with_next_free, with_shelf, with_allocated}
unfoldable pub use Rattle.rows.specs.Item.{with_generation, item_start}
pub use Rattle.rows.specs.Views.{Body, Links, same_row}
unfoldable pub use Rattle.rows.specs.Views.{body_of, links_of, in_body}
pub use Rattle.rows.specs.Links.{Below, below_more, below_some, Linked, LinksWithin, linked-at, within-put, within-change, linked_more, within_new, within_again, below_there}
pub use Rattle.rows.specs.Links.{linked_there}
