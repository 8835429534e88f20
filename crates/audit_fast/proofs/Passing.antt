-- Where all that the fast walk asks for is found, the rules hold. Assumes nothing.
use Rattle.std.specs.Prelude.{◌≡◌, ◌≤◌}
use Rattle.numbers.specs.Library.{refl, inl, inr, Bool, true, false, List, ℕ, eqb}
use Rattle.numbers.specs.Prelude.{pick, along_step, first_axis, WithinLimits}
use Rattle.numbers.specs.declared.limits.Limits.{Limits}
use Rattle.rows.specs.declared.header.Header.{Header}
use Rattle.rules.specs.Prelude.{Rule1, Passes, all_items_met}
use Rattle.audit_counts.proofs.Widths.{power_of_two}
use Rattle.laws.proofs.Stored.Once.{all_below}
use Rattle.audit_counts.specs.Fast.{loose}
use Rattle.audit_counts.proofs.Yes.{loose_1, AllAligned, none_odd, found_passes}
use Rattle.audit_fast.specs.declared.Found.{Found}
use Rattle.audit_fast.specs.Found.{ShelvesFound, WidthsFound, FreedFound}

either_least : (b : Bool) (p q : ℕ) → 1 ≤ p → 1 ≤ q → 1 ≤ pick b q p
either_least true p q a z = z
either_least false p q a z = a

pub along_least : (l : Limits) → WithinLimits l → 1 ≤ along_step l
unfolding along_step first_axis
along_least l w = either_least (eqb l.vertical 1) l.align_width l.align_height w.options.align_width_least w.options.align_height_least

-- all items are aligned, as the or-ed widths or the rows tell it
aligned : {h : Header} {S I : List ℕ} → Rule1 h S I → (f : Found) → ShelvesFound h S I f → WidthsFound h I f.widths → AllAligned h S I
unfolding loose all_items_met
aligned {h} {S} {I} one f found (inl (power, even)) =
    let (k, is) = power_of_two (along_step h.limits) (along_least h.limits one.limits) power in
    none_odd h S I k is (found.even k (rw is at even))
aligned one f found (inr each) = λ r m. each r (all_below (loose_1 one) found.items_right r m)

pub passing : {h : Header} {S I : List ℕ} → Rule1 h S I → (f : Found) → ShelvesFound h S I f → WidthsFound h I f.widths → f.area ≡ h.occupied → FreedFound h S I f
    → Passes h S I
passing {h} {S} {I} one f found widths area freed =
    found_passes one _ (record {
      shelves_right = found.shelves_right;
      items_right = found.items_right;
      counts = found.counts;
      aligned = aligned one f found widths;
      no_stray = refl;
      occupied = area;
      lists = found.lists;
      all_free = found.all_free;
      freed_shelves_lem = freed.freed_shelves_lem;
      all_shelves = freed.all_shelves;
      freed_items_lem = freed.freed_items_lem;
      all_items = freed.all_items;
    })
