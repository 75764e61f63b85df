-- Reading, step by step: what it answers where a step refuses, and what it leaves where none does.
-- Assumes nothing.
use Rattle.std.specs.Prelude.{ℕ, ◌*◌, ◌≡◌, refl, Bool, true, false, ◌&&◌, List, [], ◌∷◌, leb, T, length}
use Rattle.std.proofs.Common.{arith, subst, ◌∙◌, leb→le}
use Rattle.std.proofs.Math.Path.{sym}
use borrow.Author.Tests.{ne_eqb}
use Rattle.meaning.specs.Plan.{edge_length, visit_length, constraint_length}
use Rattle.refusals.specs.declared.Refusal.{Refusal}
use Rattle.refusals.specs.Table.{refused, whole, refusal}
use Rattle.form.specs.declared.Head.{Head}
use Rattle.form.specs.Form.{form_in, Contents, head_by, contents_by}
use Rattle.form.proofs.AcceptedLaws.{rows-refused, rows_passed}
use Rattle.holding.specs.Held.{contents_held, Holds}
use Rattle.reading.specs.declared.Read.{Read}
use Rattle.reading.specs.Promise.{Input, enough, room_right, read_refusal, Outcome, refused_answer, held_answer, refused_by, held, outcome, Promise, left}
use Rattle.reading.specs.Handing.{Room, HandedOver}

-- all seven parts of a test that passes pass
all_seven : (a b c d e f g : Bool) → T (a && b && c && d && e && f && g) → T a × (T b × (T c × (T d × (T e × (T f × T g)))))
all_seven true true true true true true true t = (tt, (tt, (tt, (tt, (tt, (tt, tt))))))
all_seven false b c d e f g t = elim t [ ]
all_seven true false c d e f g t = elim t [ ]
all_seven true true false d e f g t = elim t [ ]
all_seven true true true false e f g t = elim t [ ]
all_seven true true true true false f g t = elim t [ ]
all_seven true true true true true false g t = elim t [ ]
all_seven true true true true true true false t = elim t [ ]

-- lists that are long enough have room
pub enough_room : (h : Head) (w o e c v t s : ℕ) {b : Bool} → b ≡ enough h w o e c v t s → b ≡ true → Room h w o e c v t s
enough_room h w o e c v t s g z =
    let p = all_seven (leb h.regions w) (leb h.regions o) (leb (edge_length * h.edges) e) (leb h.flights c) (leb (visit_length * h.visits) v) (leb (constraint_length * h.constraints) t) (leb h.regions s) (subst (λ (b : Bool). T b) (sym z ∙ g) tt) in
    record {
      for_workloads = leb→le _ _ p.0;
      for_outside = leb→le _ _ p.1.0;
      for_edges = leb→le _ _ p.1.1.0;
      for_counts = leb→le _ _ p.1.1.1.0;
      for_visits = leb→le _ _ p.1.1.1.1.0;
      for_constraints = leb→le _ _ p.1.1.1.1.1.0;
      for_colouring = leb→le _ _ p.1.1.1.1.1.1;
    }

module _ (i : Input) {r : Refusal} {memory : List ℕ} (p : Holds (form_in i.sheet) i.sheet r memory) where
  -- the one outcome keeps the promise
  kept_promise : {x : Outcome} → x ≡ outcome i → Promise i x
  kept_promise e = rw e (record { answer = refl; workloads = refl; outside = refl; edges = refl; counts = refl; visits = refl; constraints = refl; colouring = refl })

  -- a reading that is refused leaves the lent lists as they are
  untouched : {f : Refusal} {a : Read} → read_refusal i ≡ f → (f.code ≡ 0 → ⊥) → a ≡ refused_answer f
      → Promise i (left a i.workloads i.outside i.edges i.counts i.visits i.constraints i.colouring)
  unfolding outcome refused_by
  untouched {f} e n a = kept_promise (rw (e, ne_eqb f.code 0 n, a))

  -- the sheet is refused
  pub promise_refused : {a : Read} → (r.code ≡ 0 → ⊥) → a ≡ refused_answer r
      → Promise i (left a i.workloads i.outside i.edges i.counts i.visits i.constraints i.colouring)
  unfolding read_refusal
  promise_refused n a =
      untouched (rows-refused (form_in i.sheet) i.sheet (whole 39 (room_right i) ∷ []) (rw p.refusal at n) ∙ sym p.refusal) n a

  module _ (z : r.code ≡ 0) {h : Head} (k : h ≡ head_by i.sheet) {b : Bool}
      (m : b ≡ enough h (length i.workloads) (length i.outside) (length i.edges) (length i.counts) (length i.visits) (length i.constraints) (length i.colouring))
    where
      rows_left : read_refusal i ≡ refusal (whole 39 b ∷ [])
      unfolding read_refusal room_right
      rows_left = rows_passed (form_in i.sheet) i.sheet (whole 39 (room_right i) ∷ []) (rw p.refusal at z) ∙ rw (m, k)

      -- the lent lists are too short
      pub promise_short : {a : Read} → b ≡ false → a ≡ refused_answer (refused 39 0)
          → Promise i (left a i.workloads i.outside i.edges i.counts i.visits i.constraints i.colouring)
      unfolding refusal
      promise_short f a = untouched (rows_left ∙ rw f) (λ e. omega arith) a

      handed : {x : Contents} {w o e c v t s : List ℕ} → b ≡ true → x ≡ contents_by i.sheet
          → HandedOver x i.workloads i.outside i.edges i.counts i.visits i.constraints i.colouring w o e c v t s → Promise i (left (held_answer h) w o e c v t s)
      unfolding refusal outcome held
      handed y same g =
          kept_promise (rw (rows_left, y, g.workloads, g.outside, g.edges, g.counts, g.visits, g.constraints, g.colouring, same, k))

      -- nothing is refused, and what is held is handed over
      pub promise_held : {w o e c v t s : List ℕ} → b ≡ true
          → HandedOver (contents_held h memory) i.workloads i.outside i.edges i.counts i.visits i.constraints i.colouring w o e c v t s
          → Promise i (left (held_answer h) w o e c v t s)
      promise_held y g = handed y (rw k (p.contents z)) g
