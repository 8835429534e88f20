-- What each call comes to on tables that pass, taken from its promise: the outcome of the rules' own call, with the atlas that it leaves. Assumes nothing.
use Rattle.std.specs.Prelude.{◌≡◌, Result, Ok, Err}
use Rattle.numbers.specs.Library.{ℕ, refl, sym, subst, ap, ◌∙◌, Bool, true, false, some, List, ℤ, length, ltb}
use Rattle.numbers.specs.Prelude.{pick, refusal_number}
use Rattle.numbers.specs.declared.refusal.Refusal.{Refusal}
use Rattle.numbers.specs.declared.refusal.Refusal.TheVariants as refusal
use Rattle.rows.specs.Prelude.{rows}
use Rattle.rows.specs.declared.live.Live.{Live}
use Rattle.rows.specs.State.{State}
use Rattle.rules.specs.Prelude.{Atlas, Outcome, refused, gives, mapped, Given, Call, Allocate, Release, LookUp, ListIn, Clear, Value, done, tells, step_in, step}
use Rattle.rules.specs.Prelude.{Unchanged, Becomes, Leaves, header_kept, is_create, Comes, Promise, Answers, allocate, release, look_up, list_in, clear}
use Rattle.rules.specs.Step.{item, items}
use Rattle.promises.specs.Prelude.{grants, replies, listings, Allocates, Releases, Clears, LooksUp, Lists, ListedSo, records, written, counted, filled, items_told}
use Rattle.promises.specs.Answers.{says}
use Rattle.promises.proofs.Steps.{on_passing}
use Rattle.promise.specs.Facts.{Pass, atlas, room, live}

-- ---- what is left

-- the state that a call leaves: the same, or one that passes with this atlas in it
pub record Left (st' : State) (a' : Atlas) : Type 0 where
  pub pass : Pass st'
  pub atlas_is : atlas st' ≡ a'

module _ (st st' : State) where
  same_state : Unchanged st.header st.shelves st.items st'.header st'.shelves st'.items → st' ≡ st
  same_state u = λ z. record { header = u.header z; shelves = u.shelves z; items = u.items z }

  left_so : {a' : Atlas} → Becomes st.shelves st.items st'.header st'.shelves st'.items a' → Left st' a'
  left_so b = record { pass = b.passes; atlas_is = b.atlas }

-- A call with the outcome `o` of the rules' own call, of which `tell` makes what is told and what stands after it.
data Coming (Says : Outcome Value → Type 0) (st st' : State) {X : Type 0} (tell : X → Given Value) (o : Outcome X) : Type 0 where
  refuses : (n : ℕ) → o ≡ refused n → Says (refused n) → st' ≡ st → Coming Says st st' tell o
  gives_so : (x : X) → o ≡ gives x → Says (gives (tell x).told) → Left st' (tell x).atlas → Coming Says st st' tell o

coming : (call : Call) (Says : Outcome Value → Type 0) (st st' : State) → Pass st → {X : Type 0} (tell : X → Given Value) (o : Outcome X)
    → is_create call ≡ false → step (room st) (some (atlas st)) call ≡ mapped tell o
    → Promise call Says st.header st.shelves st.items st'.header st'.shelves st'.items → Coming Says st st' tell o
unfolding Leaves header_kept mapped
coming call Says st st' pass {X} tell o create is p = go o refl (rw is at (on_passing call Says st.header st.shelves st.items st'.header st'.shelves st'.items pass p)) where
  go : (k : Outcome X) → o ≡ k → Comes call Says st.header st.shelves st.items st'.header st'.shelves st'.items (mapped tell k) → Coming Says st st' tell o
  go (refused n) e c = refuses n e c.says (same_state st st' (rw create at c.leaves))
  go (gives x) e c = gives_so x e c.says (left_so st st' c.leaves)

-- ---- each call

-- What a call comes to by the outcome `o` of the rules' own call: it tells `told` of what that gives, and leaves the atlas `left` of it; or it is refused as
-- that is, and leaves all as it was.
pub data Came (st st' : State) {X T : Type 0} (o : Outcome X) (told : X → T) (left : X → Atlas) : Result T Refusal → Type 0 where
  tells_it : (x : X) → o ≡ gives x → Left st' (left x) → Came st st' o told left (Ok (told x))
  refuses_it : (e : Refusal) → o ≡ refused (refusal_number e) → st' ≡ st → Came st st' o told left (Err e)

came : {st st' : State} {X T : Type 0} {Says : Outcome Value → Type 0} (value : T → Value) → ((r s : Result T Refusal) → says value r ≡ says value s → r ≡ s)
    → (o : Outcome X) (told : X → T) (left : X → Atlas) (answer : Result T Refusal) → ((v : Outcome Value) → Says v → says value answer ≡ v)
    → Coming Says st st' (λ (x : X). tells (left x) (value (told x))) o → Came st st' o told left answer
unfolding says tells
came value apart o told left (Err e) read (refuses n is s same) =
    let so : ◌≡◌ {A = Outcome Value} (refused (refusal_number e)) (refused n) = read (refused n) s in
    let number : n ≡ refusal_number e = cc in
    refuses_it e (is ∙ ap refused number) same
came value apart o told left (Ok t) read (refuses n is s same) = let so : ◌≡◌ {A = Outcome Value} (gives (value t)) (refused n) = read (refused n) s in cc
came {st} {st'} value apart o told left answer read (gives_so x is s stands) =
    subst (Came st st' o told left) (sym (apart answer (Ok (told x)) (read (gives (value (told x))) s))) (tells_it x is stands)

abbrev pub Allocating : (st st' : State) (w height : ℤ) → Result Live Refusal → Type 0
Allocating st st' w height = Came st st' (allocate (room st) (atlas st) w height) (λ (g : Given Live). g.told) (λ (g : Given Live). g.atlas)

abbrev pub Releasing : (st st' : State) (row generation : ℕ) → Result (Unit {0}) Refusal → Type 0
Releasing st st' row generation = Came st st' (release (atlas st) row generation) (λ (a' : Atlas). tt) (λ (a' : Atlas). a')

abbrev pub Looking : (st : State) (row generation : ℕ) → Result Live Refusal → Type 0
Looking st row generation = Came st st (look_up (atlas st) row generation) (λ (l : Live). l) (λ (l : Live). atlas st)

pub data Clearing (st st' : State) : Result (Unit {0}) Refusal → Type 0 where
  clears_it : Left st' (clear (atlas st)) → Clearing st st' (Ok tt)

pub data Telling (st : State) (out out' : List ℕ) : Result ℕ Refusal → Type 0 where
  tells_all : out' ≡ written 0 (live st) out → Telling st out out' (Ok (length (live st)))
  too_short : out' ≡ out → Telling st out out' (Err refusal.TooShort)

module _ (st st' : State) (pass : Pass st) where
  pub allocating : (w height : ℤ) (answer : Result Live Refusal)
      → Allocates st.header st.shelves st.items w height (record { answer = answer; header = st'.header }) st'.shelves st'.items → Allocating st st' w height answer
  unfolding Allocates step step_in tells grants is_create says
  allocating w height answer p =
      came item grants.apart (allocate (room st) (atlas st) w height) (λ (g : Given Live). g.told) (λ (g : Given Live). g.atlas) answer (λ v s. s.says)
      (coming (Allocate w height) (Answers grants (Allocate w height) answer) st st' pass _ (allocate (room st) (atlas st) w height) refl refl p)

  pub releasing : (row generation : ℕ) (answer : Result (Unit {0}) Refusal)
      → Releases st.header st.shelves st.items row generation (record { answer = answer; header = st'.header }) st'.shelves st'.items → Releasing st st' row generation answer
  unfolding Releases step step_in tells replies is_create says
  releasing row generation answer p =
      came (λ t. done) replies.apart (release (atlas st) row generation) (λ (a' : Atlas). tt) (λ (a' : Atlas). a') answer (λ v s. s.says)
      (coming (Release row generation) (Answers replies (Release row generation) answer) st st' pass _ (release (atlas st) row generation) refl refl p)

  pub clearing : (answer : Result (Unit {0}) Refusal) → Clears st.header st.shelves st.items (record { answer = answer; header = st'.header }) st'.shelves st'.items → Clearing st st' answer
  unfolding Clears step step_in tells replies is_create mapped says
  clearing answer p = go (coming Clear (Answers replies Clear answer) st st' pass (λ (a : Atlas). tells a done) (gives (clear (atlas st))) refl refl p) where
    go : Coming (Answers replies Clear answer) st st' (λ (a : Atlas). tells a done) (gives (clear (atlas st))) → Clearing st st' answer
    go (refuses n e says same) = cc
    go (gives_so a e says left) =
        let is : a ≡ clear (atlas st) = cc in
        subst (Clearing st st') (sym (replies.apart answer (Ok tt) says.says)) (clears_it (rw is at left))

module _ (st : State) (pass : Pass st) where
  pub looking : (row generation : ℕ) (answer : Result Live Refusal) → LooksUp st.header st.shelves st.items row generation answer → Looking st row generation answer
  unfolding LooksUp step step_in tells grants is_create says
  looking row generation answer p =
      came item grants.apart (look_up (atlas st) row generation) (λ (l : Live). l) (λ (l : Live). atlas st) answer (λ v s. s.says)
      (coming (LookUp row generation) (Answers grants (LookUp row generation) answer) st st pass _ (look_up (atlas st) row generation) refl refl p)

  pub telling : (out : List ℕ) (answer : Result ℕ Refusal) (out' : List ℕ) → Lists st.header st.shelves st.items out answer out' → Telling st out out' answer
  unfolding Lists step step_in tells listings is_create list_in mapped counted filled items_told says
  telling out answer out' p =
      let call : Call = ListIn (rows records out) in
      go (ltb (rows records out) (length (live st))) (coming call (ListedSo call out answer out') st st pass _ (list_in (rows records out) (atlas st)) refl refl p) where
        go : (short : Bool) → Coming (ListedSo (ListIn (rows records out)) out answer out') st st (λ (ls : List Live). tells (atlas st) (items ls)) (pick short (refused 10) (gives (live st))) → Telling st out out' answer
        go true (refuses n e says same) =
            let is : n ≡ 10 = cc in
            subst (Telling st out out') (sym (listings.apart answer (Err refusal.TooShort) (says.answers.says ∙ ap refused is))) (too_short says.listed)
        go true (gives_so ls e says left) = cc
        go false (refuses n e says same) = cc
        go false (gives_so ls e says left) =
            let is : ls ≡ live st = cc in
            subst (Telling st out out') (sym (listings.apart answer (Ok (length (live st))) (rw is at says.answers.says))) (tells_all (rw is at says.listed))
