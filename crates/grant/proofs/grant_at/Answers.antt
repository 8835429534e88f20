-- `grant_at`: the shelf is fitted, then the item taken, then the area added.
use Rattle.std.specs.Prelude.{◌≡◌, length}
use Rattle.numbers.specs.Library.{ap, ◌∙◌, Bool, true, false, refl}
use Rattle.numbers.specs.Prelude.{pick}
use Rattle.plan.specs.declared.Plan.{Plan}
use Rattle.rows.specs.State.{State}
use Rattle.shelf_edits.specs.ShelfEdits.{split_shelf, length-split_shelf}
use Rattle.grant.specs.Grant.{there_long, fit_shelf, grant_at}
use Rattle.grant.proofs.grant_at.Goals as goal

-- fitting a shelf leaves the tables as long as they were
fit_long : (st : State) (p : Plan) → (length (fit_shelf st p).shelves ≡ length st.shelves) × (length (fit_shelf st p).items ≡ length st.items)
unfolding fit_shelf
fit_long st p = go p.shelf_split where
  go : (b : Bool) → let fitted : State = pick b (split_shelf st p.shelf p.shelf_row p.depth) st in
      (length fitted.shelves ≡ length st.shelves) × (length fitted.items ≡ length st.items)
  go true = length-split_shelf st p.shelf p.shelf_row p.depth
  go false = (refl, refl)

pub take_item-requires : goal.take_item-requires
take_item-requires c =
    let long = fit_long _ c.args.p in
    there_long c.args.p (ap (λ (st : State). length st.shelves) c.fit_shelf.ensures.is ∙ long.0) (ap (λ (st : State). length st.items) c.fit_shelf.ensures.is ∙ long.1) c.requires

pub returns-clause-is : goal.returns-clause-is
unfolding grant_at
returns-clause-is c = rw (c.occupy-t.ensures, c.area.ensures, ← c.fit_shelf.ensures.is, ← c.take_item.ensures.is)
