-- What other files bring from the specs of `numbers`, in one place. It states nothing of its own. Assumes nothing.
pub use Rattle.numbers.specs.Pick.{pick, pick_yes, pick_no, pick_ap, pick_same}
pub use Rattle.numbers.specs.Decides.{Decides, never, refuted, as_test, denied, allowed}
pub use Rattle.numbers.specs.Index.{no_row, most_rows, no_shelf, no_item}
pub use Rattle.numbers.specs.Round.{round_exact, round_over, round_none}
pub use Rattle.numbers.specs.Bands.{four_bands, height_rounded, height_kept}
unfoldable pub use Rattle.numbers.specs.Bands.{depth_band, depth_step}
pub use Rattle.numbers.specs.Fit.{large_enough_to_split}
unfoldable pub use Rattle.numbers.specs.Fit.{good_fit_to}
pub use Rattle.numbers.specs.Tests.{both, stop, go_on}
unfoldable pub use Rattle.numbers.specs.Axes.{first_axis, second_axis}
pub use Rattle.numbers.specs.Sides.{most_side, one_to_lem, natural_negative, natural_positive, flag_negative, flag_positive, side_fits, side_bad}
unfoldable pub use Rattle.numbers.specs.Sides.{one_to, natural, flag_of, side_of}
pub use Rattle.numbers.specs.Refusal.{refusal_number, same_number}
pub use Rattle.numbers.specs.Request.{too_wide, too_deep, fitting, bad_width, bad_height, good_sides}
unfoldable pub use Rattle.numbers.specs.Request.{asked_of, asked}
pub use Rattle.numbers.specs.Limits.{most_height, most_area, WithinLimits, sizes_say, options_say, shelf_width_says, shelf_width_most, refused_1, refused_2}
pub use Rattle.numbers.specs.Limits.{no_columns, no_shelf_width, accepted}
unfoldable pub use Rattle.numbers.specs.Limits.{sizes_good, options_good, shelf_width_of, shelf_width_good, columns_of, columns, space_left, along_step, limits_for}
unfoldable pub use Rattle.numbers.specs.Limits.{create_numbers}
pub use Rattle.numbers.specs.Created.{created_within}
pub use Rattle.numbers.specs.Placeable.{Placeable}
