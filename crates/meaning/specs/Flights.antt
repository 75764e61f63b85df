-- Flights that are cut from the flat lists, one after the other.
-- Assumes nothing.
use Rattle.std.specs.Prelude.{ℕ, suc, ◌+◌, ◌-◌, ◌*◌, ◌≤◌, ◌<◌, ◌≡◌, refl, List, [], ◌∷◌, length, get_or, take, drop}
use Rattle.std.proofs.Common.{add-zero, add-one, arith, sym, ap, ◌∙◌, length-take-le, drop-cons, get_or-drop}
use Rattle.std.proofs.Math.Seq.{drop-drop}
use Rattle.lists.specs.Sums.{sum}
use Rattle.lists.specs.ListLaws.{length-list_of}
use Rattle.meaning.specs.Plan.{visit_length, visits_of, flights_of}

-- there is a flight for each count
pub length-flights_of : (counts visits : List ℕ) → length (flights_of counts visits) ≡ length counts
unfolding flights_of
length-flights_of [] visits = refl
length-flights_of (n ∷ counts) visits = ap suc (length-flights_of counts (drop (visit_length * n) visits))

-- a flight has as many visits as its count says, where there are so many
pub length_flight : (n : ℕ) (visits : List ℕ) → visit_length * n ≤ length visits → length (visits_of (take (visit_length * n) visits)) ≡ n
unfolding visits_of
length_flight n visits h = rw (length-list_of, length-take-le (visit_length * n) visits h) (omega arith)

-- the flights before index k are cut from the visits before `place`: the others are cut from what follows, all of it
pub record Cut (counts visits : List ℕ) (k place : ℕ) : Type 0 where
  pub rest : drop k (flights_of counts visits) ≡ flights_of (drop k counts) (drop place visits)
  pub size : length visits ≡ place + visit_length * sum (drop k counts) (λ n. n)

module _ {counts visits : List ℕ} where
  -- none is cut
  pub cut_start : length visits ≡ visit_length * sum counts (λ n. n) → Cut counts visits 0 0
  cut_start h = record { rest = refl; size = omega arith }

  module _ {k place : ℕ} (c : Cut counts visits k place) (h : k < length counts) where
    -- the visits that the next flight takes
    abbrev taken : ℕ
    taken = visit_length * get_or counts k 0

    -- its count, and those after it
    counts-next : drop k counts ≡ get_or counts k 0 ∷ drop (suc k) counts
    counts-next = drop-cons counts k 0 h

    -- they are there
    pub cut_room : place + taken ≤ length visits
    cut_room = omega (arith, c.size, ap (λ ns. sum ns (λ n. n)) counts-next)

    -- the flight, and those after it
    flights_next : drop k (flights_of counts visits) ≡ visits_of (take taken (drop place visits)) ∷ flights_of (drop (suc k) counts) (drop (place + taken) visits)
    unfolding flights_of
    flights_next = c.rest ∙ rw (counts-next, drop-drop taken place visits)

    -- they are its visits
    pub cut_flight : visits_of (take (place + taken - place) (drop place visits)) ≡ get_or (flights_of counts visits) k []
    cut_flight =
        let e : place + taken - place ≡ taken = omega arith in
        rw e (sym (ap (λ fs. get_or fs 0 []) flights_next) ∙ rw add-zero at (get_or-drop k (flights_of counts visits) 0 []))

    -- the next flight is cut
    pub cut_turn : Cut counts visits (k + 1) (place + taken)
    cut_turn =
        record {
          rest = sym (drop-drop 1 k (flights_of counts visits)) ∙ ap (drop 1) flights_next ∙ rw (add-one k);
          size = rw (add-one k) (omega (arith, c.size, ap (λ ns. sum ns (λ n. n)) counts-next));
        }
