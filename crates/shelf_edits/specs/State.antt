-- The header and the two tables of a state, one by one. Assumes nothing.
use Rattle.std.specs.Prelude.{◌≡◌}
use Rattle.numbers.specs.Library.{ℕ, subst, List}
use Rattle.rows.specs.declared.header.Header.{Header}
use Rattle.rows.specs.State.{State, state}

-- the header and the tables are those of a state
pub record Are (st : State) (h : Header) (S I : List ℕ) : Type 0 where
  pub header : h ≡ st.header
  pub shelves : S ≡ st.shelves
  pub items : I ≡ st.items

are_same : {st : State} {h : Header} {S I : List ℕ} → Are st h S I → state h S I ≡ st
are_same a = rw (a.header, a.shelves, a.items)

-- a step from the header and the tables of a state is a step from that state
pub then_are : {st : State} {h h' : Header} {S I S' I' : List ℕ} (f : State → State) → Are st h S I → Are (f (state h S I)) h' S' I' → Are (f st) h' S' I'
then_are {h' = h'} {S' = S'} {I' = I'} f a b = subst (λ (x : State). Are (f x) h' S' I') (are_same a) b
