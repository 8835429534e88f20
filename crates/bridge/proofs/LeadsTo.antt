-- The relation that is shown of each step: it leads from one state to another in which an atlas stands, and all past that atlas's used rows stays as
-- it was. Such steps compose. Assumes nothing.
use Rattle.std.specs.Prelude.{◌≤◌}
use Rattle.rows.specs.Prelude.{Past, past_same, past_more, past_then, items, shelves}
use Rattle.rules.specs.Prelude.{Atlas}
use Rattle.rows.specs.State.{State}
use Rattle.bridge.proofs.Stands.{Stands}

pub record Leads (from to : State) (a : Atlas) : Type 0 where
  pub stands : Stands to a
  pub shelves_past : Past shelves a.rows.shelves.used from.shelves to.shelves
  pub items_past : Past items a.rows.items.used from.items to.items

-- no step at all
pub leads_same : (st : State) (a : Atlas) → Stands st a → Leads st st a
leads_same st a stands = record { stands = stands; shelves_past = past_same shelves _ st.shelves; items_past = past_same items _ st.items }

-- two steps, of which the second uses no fewer rows
pub leads_then : {s t u : State} {a b : Atlas} → a.rows.shelves.used ≤ b.rows.shelves.used → a.rows.items.used ≤ b.rows.items.used
    → Leads s t a → Leads t u b → Leads s u b
leads_then more_shelves more_items p q = record {
  stands = q.stands;
  shelves_past = past_then shelves (past_more shelves _ more_shelves p.shelves_past) q.shelves_past;
  items_past = past_then items (past_more items _ more_items p.items_past) q.items_past;
}
