-- The limits of an atlas: what create accepts, and what every header keeps. Assumes nothing.
use Rattle.std.specs.Prelude.{◌*◌, ◌-◌, ◌/◌, ◌%◌, ◌<◌, ◌≤◌, ◌≡◌, ◌&&◌, Result, Ok, Err}
use Rattle.numbers.specs.Library.{ℕ, ◌∙◌, Bool, true, false, div-mul-le_self, le-div_iff_mul-le, arith, leb, eqb}
use Rattle.numbers.specs.Library.{ℤ, leb-true, le-leb, lt-leb, eqb-true, eq-eqb}
use Rattle.std.proofs.Common.{div-le_self}
use Rattle.numbers.specs.declared.limits.Limits.{Limits}
use Rattle.numbers.specs.declared.refusal.Refusal.{Refusal}
use Rattle.numbers.specs.declared.refusal.Refusal.TheVariants as refusal
use Rattle.numbers.specs.Pick.{pick, pick_yes, pick_no}
use Rattle.numbers.specs.Decides.{Decides}
use Rattle.numbers.specs.Tests.{both}
use Rattle.numbers.specs.Axes.{first_axis, second_axis}
use Rattle.numbers.specs.Sides.{most_side, one_to, natural, flag_of, one_to_lem}

-- "Why 65527: the Rust adds 8 to a 16-bit depth, and never picks a shelf of depth 65535."
abbrev pub most_height : ℕ
most_height = 65527

abbrev pub most_area : ℕ
most_area = 2147483647

-- ---- the tests

-- "W 1 to 65535, H 1 to 65527, W x H at most 2147483647."
unfoldable pub sizes_good : ℕ → ℕ → Bool
unfolding one_to
sizes_good width height = one_to most_side width && (one_to most_height height && leb (width * height) most_area)

-- alignments 1 to 65535, vertical 0 or 1
unfoldable pub options_good : ℕ → ℕ → ℕ → Bool
unfolding one_to
options_good alignWidth alignHeight vertical =
    one_to most_side alignWidth && (one_to most_side alignHeight && leb vertical 1)

-- S: W / columns, less its remainder by the along alignment
unfoldable pub shelf_width_of : ℕ → ℕ → ℕ → ℕ
shelf_width_of width columns step = width / columns - width / columns % step

-- S from 1 to W, and a multiple of the along alignment
unfoldable pub shelf_width_good : ℕ → ℕ → ℕ → Bool
shelf_width_good width shelf_width step = one_to width shelf_width && eqb (shelf_width % step) 0

-- C
unfoldable pub columns_of : ℕ → ℕ → ℕ
columns_of width shelf_width = width / shelf_width

unfoldable pub columns : Limits → ℕ
unfolding columns_of
columns l = columns_of l.width l.shelf_width

-- "Free space is W x H less occupied."
unfoldable pub space_left : Limits → ℕ → ℕ
space_left l occupied = l.width * l.height - occupied

-- the alignment along the shelves
unfoldable pub along_step : Limits → ℕ
unfolding first_axis
along_step l = first_axis l.vertical l.align_width l.align_height

-- the six numbers of a create: W and H are the sizes along and deep
unfoldable pub limits_for : ℕ → ℕ → ℕ → ℕ → ℕ → ℕ → Limits
unfolding shelf_width_of first_axis second_axis
limits_for w h alignWidth alignHeight vertical columns = record {
  width = first_axis vertical w h;
  height = second_axis vertical w h;
  align_width = alignWidth;
  align_height = alignHeight;
  vertical = vertical;
  shelf_width = shelf_width_of (first_axis vertical w h) columns (first_axis vertical alignWidth alignHeight);
}

-- answer 1 for the sizes; then answer 2 for the options, for no column, and for an S of 0
unfoldable pub judged_limits : ℕ → Limits → Result Limits Refusal
unfolding sizes_good options_good
judged_limits columns l =
    pick (sizes_good l.width l.height)
    (pick (options_good l.align_width l.align_height l.vertical && (leb 1 columns && leb 1 l.shelf_width))
    (Ok l)
    (Err refusal.Options))
    (Err refusal.Size)

-- create's numbers, as they are given; a vertical that is neither 0 nor 1 leaves x and y in place, and is answer 2
unfoldable pub create_numbers : ℤ → ℤ → ℤ → ℤ → ℤ → ℤ → Result Limits Refusal
unfolding judged_limits limits_for natural flag_of
create_numbers w h alignWidth alignHeight vertical columns =
    judged_limits (natural columns)
    (limits_for (natural w) (natural h) (natural alignWidth) (natural alignHeight) (flag_of vertical) (natural columns))

-- ---- what the tests say

pub record GoodSizes (width height : ℕ) : Type 0 where
  pub w_least : 1 ≤ width
  pub w_most : width ≤ most_side
  pub h_least : 1 ≤ height
  pub h_most : height ≤ most_height
  pub area : width * height ≤ most_area

pub record GoodOptions (alignWidth alignHeight flag : ℕ) : Type 0 where
  pub align_width_least : 1 ≤ alignWidth
  pub align_width_most : alignWidth ≤ most_side
  pub align_height_least : 1 ≤ alignHeight
  pub align_height_most : alignHeight ≤ most_side
  pub vertical : flag ≤ 1

-- "Header within the limits above, vertical 0 or 1, S from 1 to W and a multiple of the along alignment"
pub record WithinLimits (l : Limits) : Type 0 where
  pub sizes : GoodSizes l.width l.height
  pub options : GoodOptions l.align_width l.align_height l.vertical
  pub s_least : 1 ≤ l.shelf_width
  pub s_most : l.shelf_width ≤ l.width
  pub s_aligned : l.shelf_width % along_step l ≡ 0

pub sizes_say : (width height : ℕ) → Decides (sizes_good width height) (GoodSizes width height)
unfolding sizes_good
sizes_say width height = record {
  sound = λ e.
      let t = both (one_to most_side width) _ e in
      let u = both (one_to most_height height) _ t.1 in
      let w = (one_to_lem most_side width).sound t.0 in
      let h = (one_to_lem most_height height).sound u.0 in
      record { w_least = w.0; w_most = w.1; h_least = h.0; h_most = h.1; area = leb-true _ _ u.1 };
  complete = λ g. rw ((one_to_lem most_side width).complete (g.w_least, g.w_most), (one_to_lem most_height height).complete (g.h_least, g.h_most)) (le-leb _ _ g.area);
}

pub options_say : (alignWidth alignHeight vertical : ℕ) → Decides (options_good alignWidth alignHeight vertical) (GoodOptions alignWidth alignHeight vertical)
unfolding options_good
options_say alignWidth alignHeight vertical = record {
  sound = λ e.
      let t = both (one_to most_side alignWidth) _ e in
      let u = both (one_to most_side alignHeight) _ t.1 in
      let w = (one_to_lem most_side alignWidth).sound t.0 in
      let h = (one_to_lem most_side alignHeight).sound u.0 in
      record { align_width_least = w.0; align_width_most = w.1; align_height_least = h.0; align_height_most = h.1; vertical = leb-true vertical 1 u.1 };
  complete = λ g.
      rw ((one_to_lem most_side alignWidth).complete (g.align_width_least, g.align_width_most), (one_to_lem most_side alignHeight).complete (g.align_height_least, g.align_height_most))
      (le-leb _ _ g.vertical);
}

pub shelf_width_says : (width shelf_width step : ℕ) → Decides (shelf_width_good width shelf_width step) ((1 ≤ shelf_width) × (shelf_width ≤ width) × (shelf_width % step ≡ 0))
unfolding shelf_width_good
shelf_width_says width shelf_width step = record {
  sound = λ e.
      let t = both (one_to width shelf_width) _ e in
      let s = (one_to_lem width shelf_width).sound t.0 in
      (s.0, s.1, eqb-true _ _ t.1);
  complete = λ w. rw ((one_to_lem width shelf_width).complete (w.0, w.1)) (eq-eqb _ _ w.2);
}

-- ---- laws

-- there is a column, and all of them lie within W
pub some_columns : (width shelf_width : ℕ) → 1 ≤ shelf_width → shelf_width ≤ width → 1 ≤ columns_of width shelf_width
unfolding columns_of
some_columns width shelf_width some most = (le-div_iff_mul-le some).1 (omega arith)

pub columns_fit : (width shelf_width : ℕ) → columns_of width shelf_width * shelf_width ≤ width
unfolding columns_of
columns_fit width shelf_width = div-mul-le_self width shelf_width

-- S is at most W
pub shelf_width_most : (width columns step : ℕ) → shelf_width_of width columns step ≤ width
unfolding shelf_width_of
shelf_width_most width columns step = omega (arith, div-le_self width columns)

-- the answers of create, case by case
module _ (columns : ℕ) (l : Limits) where
  pub refused_1 : sizes_good l.width l.height ≡ false → judged_limits columns l ≡ Err refusal.Size
  unfolding judged_limits
  refused_1 e = pick_no _ _ e

  module _ (sizes : sizes_good l.width l.height ≡ true) where
    pub refused_2 :
        (options_good l.align_width l.align_height l.vertical && (leb 1 columns && leb 1 l.shelf_width)) ≡ false
        → judged_limits columns l ≡ Err refusal.Options
    unfolding judged_limits
    refused_2 e = pick_yes _ _ sizes ∙ pick_no _ _ e

    module _ (options : options_good l.align_width l.align_height l.vertical ≡ true) where
      pub no_columns : columns < 1 → judged_limits columns l ≡ Err refusal.Options
      no_columns h = refused_2 (rw (options, lt-leb 1 columns h))

      module _ (some : 1 ≤ columns) where
        pub no_shelf_width : l.shelf_width < 1 → judged_limits columns l ≡ Err refusal.Options
        no_shelf_width h = refused_2 (rw (options, le-leb 1 columns some, lt-leb 1 l.shelf_width h))

        pub accepted : 1 ≤ l.shelf_width → judged_limits columns l ≡ Ok l
        unfolding judged_limits
        accepted h =
            let all : (options_good l.align_width l.align_height l.vertical && (leb 1 columns && leb 1 l.shelf_width)) ≡ true =
            rw (options, le-leb 1 columns some, le-leb 1 l.shelf_width h) in
            pick_yes _ _ sizes ∙ pick_yes _ _ all
