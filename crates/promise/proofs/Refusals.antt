-- Answer 3 is none that a request gets where the tables pass. Assumes nothing.
use Rattle.std.specs.Prelude.{◌≢◌, ◌&&◌, Option, Some, None, Result, Ok, Err}
use Rattle.numbers.specs.Library.{ℕ, refl, subst, ℤ, arith, leb}
use Rattle.numbers.specs.Prelude.{first_axis, second_axis, side_of, asked_of, asked, refusal_number}
use Rattle.numbers.specs.Round.{round_up}
use Rattle.numbers.specs.Request.{asked_within, judged}
use Rattle.numbers.specs.declared.{limits.Limits.Limits, request.Asked.Asked, refusal.Refusal.Refusal}
use Rattle.rows.specs.declared.live.Live.{Live}
use Rattle.rules.specs.Prelude.{Atlas, Room, grant}
use Rattle.rules.specs.Prelude.{Outcome, refused, gives, Given, WellFormed, allocate}
use Rattle.laws.proofs.Shape.Around.{pick_cases}
use Rattle.laws.proofs.Shape.Granting.{place_so, grant_so}

-- 4 and 5 are decided on the request
abbrev RequestNot3 : Result Asked Refusal → Type 0
RequestNot3 (Err e) = refusal_number e ≢ 3
RequestNot3 (Ok q) = Unit {0}

within_not_3 : (l : Limits) (width depth : ℕ) → RequestNot3 (asked_within l width depth)
unfolding asked_within
within_not_3 l width depth = pick_cases RequestNot3 (leb width l.shelf_width && leb depth l.height) _ _ (λ e. tt) (λ e is. omega arith)

request_not_3 : (l : Limits) (w height : ℤ) → RequestNot3 (asked l w height)
unfolding asked judged asked_of
request_not_3 l w height = go (side_of w) (side_of height) where
  go : (s t : Option ℕ) → RequestNot3 (judged l s t)
  go (Some x) (Some y) = within_not_3 l (first_axis l.vertical (round_up l.align_width x) (round_up l.align_height y)) (second_axis l.vertical (round_up l.align_width x) (round_up l.align_height y))
  go (Some x) None = λ is. omega arith
  go None t = λ is. omega arith

-- 6 and 7 on the atlas
abbrev Not3 : Outcome (Given Live) → Type 0
Not3 (refused n) = n ≢ 3
Not3 (gives g) = Unit {0}

grant_not_3 : (room : Room) (a : Atlas) → WellFormed room a → (q : Asked) → Not3 (grant room a q)
grant_not_3 room a formed q =
    grant_so room a formed.sound q Not3 (λ e is. omega arith) (λ is. omega arith)
    (λ f w c e. place_so a q Not3 _ w _ _ (λ e. tt) (λ e. tt)) (λ f w c e. place_so a q Not3 f w f.after a.rows (λ e. tt) (λ e. tt))

pub allocate_not_3 : (room : Room) (a : Atlas) → WellFormed room a → (w height : ℤ) → allocate room a w height ≢ refused 3
unfolding allocate
allocate_not_3 room a formed w height is = subst Not3 is (go (asked a.limits w height) (request_not_3 a.limits w height)) refl where
  go : (r : Result Asked Refusal) → RequestNot3 r → Not3 (elim r [ Err e ↦ refused (refusal_number e) | Ok q ↦ grant room a q ])
  go (Ok q) n = grant_not_3 room a formed q
  go (Err e) n = n
