-- What follows from what a call leaves. An atlas in shape that a step leads to is the one that an audit of the tables then meets; and an outcome is
-- told by its atlas, but for the numbers after the used rows. Assumes nothing.
use Rattle.std.specs.Prelude.{◌≤◌, ◌≡◌}
use Rattle.numbers.specs.Library.{ℕ, sym, ap, ◌∙◌, List, arith}
use Rattle.rows.specs.Prelude.{Past, items, shelves}
use Rattle.rows.specs.declared.header.Header.{Header}
use Rattle.rules.specs.Prelude.{Atlas, Stores, room_in, WellFormed, Shaped, atlas_in, Becomes}
use Rattle.laws.specs.Same.{SameUsed}
use Rattle.laws.proofs.Stored.Reading.{reads, formed, unique, passes, determined, same_shelves, same_items}
use Rattle.rows.specs.State.{State, state}
use Rattle.bridge.proofs.LeadsTo.{Leads}

-- an atlas that lies in the tables and keeps its rules, with all past its used rows as it was
pub becomes_stored : (S I : List ℕ) (h' : Header) (S' I' : List ℕ) (a' : Atlas) → Stores h' S' I' a' → WellFormed (room_in S' I') a'
    → Past shelves a'.rows.shelves.used S S' → Past items a'.rows.items.used I I' → Becomes S I h' S' I' a'
becomes_stored S I h' S' I' a' l k s i = record { passes = passes h' S' I' a' l k; atlas = sym (unique h' S' I' a' l k); shelves_past = s; items_past = i }

-- a step that leads to an atlas in shape
pub becomes : (h : Header) (S I : List ℕ) (st : State) (a : Atlas) → Leads (state h S I) st a → Shaped a → Becomes S I st.header st.shelves st.items a
becomes h S I st a leads shaped =
    becomes_stored S I st.header st.shelves st.items a leads.stands.stored (record { sound = leads.stands.sound; shaped = shaped }) leads.shelves_past leads.items_past

module _ (S I : List ℕ) (h' : Header) (S' I' : List ℕ) (a' : Atlas) (b : Becomes S I h' S' I' a') where
  pub stored_after : Stores h' S' I' a'
  stored_after = rw b.atlas at (reads h' S' I' b.passes)

  pub formed_after : WellFormed (room_in S' I') a'
  formed_after = rw b.atlas at (formed h' S' I' b.passes)

  used_shelves_lem : h'.used_shelves ≡ a'.rows.shelves.used
  unfolding atlas_in
  used_shelves_lem = ap (λ (a : Atlas). a.rows.shelves.used) b.atlas

  used_items_lem : h'.used_items ≡ a'.rows.items.used
  unfolding atlas_in
  used_items_lem = ap (λ (a : Atlas). a.rows.items.used) b.atlas

-- outcomes with the same atlas have the same header and the same used rows, whatever stood in the tables before
pub same_outcome : (S₁ I₁ S₂ I₂ : List ℕ) (h₁ h₂ : Header) (S₁' I₁' S₂' I₂' : List ℕ) (a' : Atlas)
    → Becomes S₁ I₁ h₁ S₁' I₁' a' → Becomes S₂ I₂ h₂ S₂' I₂' a' → SameUsed h₁ h₂ S₁' S₂' I₁' I₂'
same_outcome S₁ I₁ S₂ I₂ h₁ h₂ S₁' I₁' S₂' I₂' a' b c =
    determined h₁ h₂ S₁' S₂' I₁' I₂' _ a' (stored_after S₁ I₁ h₁ S₁' I₁' a' b) (stored_after S₂ I₂ h₂ S₂' I₂' a' c) (formed_after S₁ I₁ h₁ S₁' I₁' a' b)

-- any two outcomes that a promise allows are the same: what comes after the used rows is as it was before
pub one_outcome : (S I : List ℕ) (h₁ h₂ : Header) (S₁ I₁ S₂ I₂ : List ℕ) (a' : Atlas) → Becomes S I h₁ S₁ I₁ a' → Becomes S I h₂ S₂ I₂ a' → (h₁ ≡ h₂) × (S₁ ≡ S₂) × (I₁ ≡ I₂)
one_outcome S I h₁ h₂ S₁ I₁ S₂ I₂ a' b c =
    let same : SameUsed h₁ h₂ S₁ S₂ I₁ I₂ = same_outcome S I S I h₁ h₂ S₁ I₁ S₂ I₂ a' b c in
    let shelves₁ : Past shelves a'.rows.shelves.used S S₁ = b.shelves_past in
    let shelves₂ : Past shelves a'.rows.shelves.used S S₂ = c.shelves_past in
    let items₁ : Past items a'.rows.items.used I I₁ = b.items_past in
    let items₂ : Past items a'.rows.items.used I I₂ = c.items_past in (
      same.header,
      same_shelves h₁ h₂ S₁ S₂ I₁ I₂ same (shelves₁.as_long ∙ sym shelves₂.as_long) (shelves₁.rest_kept ∙ sym shelves₂.rest_kept)
          (λ r m. let n : a'.rows.shelves.used ≤ r = omega (arith, used_shelves_lem S I h₁ S₁ I₁ a' b) in shelves₁.later r n ∙ sym (shelves₂.later r n)),
      same_items h₁ h₂ S₁ S₂ I₁ I₂ same (items₁.as_long ∙ sym items₂.as_long) (items₁.rest_kept ∙ sym items₂.rest_kept)
          (λ r m. let n : a'.rows.items.used ≤ r = omega (arith, used_items_lem S I h₁ S₁ I₁ a' b) in items₁.later r n ∙ sym (items₂.later r n)),
    )
