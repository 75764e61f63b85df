-- A table of refusals in groups, the rows of one code each, beside the rules that the codes stand for: when each code is given, and with which place.
-- Assumes nothing.
use Rattle.std.specs.Prelude.{ℕ, ◌≡◌, refl, ◌≢◌, ◌⊎◌, ◌↔◌, Bool, true, false, cond, not, ◌&&◌, List, [], ◌∷◌, ◌++◌, eqb, T}
use Rattle.std.proofs.Common.{sym, ◌∙◌, inl, inr, ⊎_elim, true≢false, eqb-true, T_not, eqb→eq}
use Rattle.std.proofs.lemmas.Bool.{eqb-false}
use Rattle.std.proofs.Math.Dec.{eqb_refl}
use Rattle.refusals.specs.declared.Refusal.{Refusal}
use Rattle.refusals.specs.Table.{Row, refusal}
use Rattle.refusals.specs.Passed.{Passed, both}

-- ---- definitions

-- a code, and the rule that it stands for
pub record Rule : Type 1 where
  pub code : ℕ
  pub Holds : Type 0

-- such a rule, as its code asks for it
infix 6 ◌asks◌
abbrev pub ◌asks◌ : ℕ → Type 0 → Rule
code asks Holds = record { code = code; Holds = Holds }

-- all of these rules hold
abbrev pub All : List Rule → Type 0
All [] = Unit {0}
All (A ∷ As) = A.Holds × All As

-- the rules before that of code c
abbrev pub before : ℕ → List Rule → List Rule
before c [] = []
before c (A ∷ As) = cond (eqb A.code c) [] (A ∷ before c As)

-- the rule of code c
abbrev pub rule_of : ℕ → List Rule → Type 0
rule_of c [] = Unit {0}
rule_of c (A ∷ As) = cond (eqb A.code c) A.Holds (rule_of c As)

-- no rule has code c
abbrev pub absent : ℕ → List Rule → Bool
absent c [] = true
absent c (A ∷ As) = not (eqb A.code c) && absent c As

-- one rule has code c
abbrev pub once : ℕ → List Rule → Bool
once c [] = false
once c (A ∷ As) = cond (eqb A.code c) (absent c As) (once c As)

-- c is the code of one of these rules
abbrev pub Among : ℕ → List Rule → Type 0
Among c [] = ⊥
Among c (A ∷ As) = (c ≡ A.code) ⊎ Among c As

-- the rules, checked in their order, give this code: that of the first that does not hold, or 0 where all hold
abbrev pub Told : List Rule → ℕ → Type 0
Told [] c = c ≡ 0
Told (A ∷ As) c = (A.Holds × Told As c) ⊎ ((A.Holds → ⊥) × (c ≡ A.code))

-- a code is given exactly when what is checked before it holds and its own rule does not, and then with a place that is so
pub record Due (given : Refusal) (code : ℕ) (Before Rule : Type 0) (Place : ℕ → Type 0) : Type 0 where
  pub exactly : given.code ≡ code ↔ Before × (Rule → ⊥)
  pub place : given.code ≡ code → Place given.place

-- the rows of all groups, in order
abbrev pub in_order : List (List Row) → List Row
in_order [] = []
in_order (g ∷ gs) = g ++ in_order gs

-- each row has the code c
abbrev pub coded : ℕ → List Row → Bool
coded c [] = true
coded c (r ∷ rs) = eqb r.code c && coded c rs

-- each group has the code of its rule, and passes exactly when the rule holds
abbrev pub Stand : List (List Row) → List Rule → Type 0
Stand [] [] = Unit {0}
Stand [] (A ∷ As) = ⊥
Stand (g ∷ gs) [] = ⊥
Stand (g ∷ gs) (A ∷ As) = (T (coded A.code g) × (Passed g ↔ A.Holds)) × Stand gs As

-- the group of code c
abbrev pub group_of : ℕ → List (List Row) → List Rule → List Row
group_of c [] As = []
group_of c (g ∷ gs) [] = []
group_of c (g ∷ gs) (A ∷ As) = cond (eqb A.code c) g (group_of c gs As)

-- ---- one group

-- a group passes, or it does not
passed_dec : (g : List Row) → Dec (Passed g)
passed_dec [] = yes tt
passed_dec (r ∷ rs) = go r.given refl (passed_dec rs)
  where
    go : (b : Bool) → r.given ≡ b → Dec (Passed rs) → Dec (Passed (r ∷ rs))
    go true e d = no (λ p. true≢false (sym e ∙ p.0))
    go false e (yes p) = yes (e, p)
    go false e (no n) = no (λ p. n p.1)

-- where a group passes, what follows decides
passed_on : (g rest : List Row) → Passed g → refusal (g ++ rest) ≡ refusal rest
unfolding refusal
passed_on [] rest p = refl
passed_on (r ∷ rs) rest p = rw p.0 (passed_on rs rest p.1)

-- where a group does not pass, it decides
caught : (g rest : List Row) → (Passed g → ⊥) → refusal (g ++ rest) ≡ refusal g
unfolding refusal
caught [] rest n = absurd (n tt)
caught (r ∷ rs) rest n = go r.given refl (caught rs rest)
  where
    go : (b : Bool) → r.given ≡ b → ((Passed rs → ⊥) → refusal (rs ++ rest) ≡ refusal rs) → refusal ((r ∷ rs) ++ rest) ≡ refusal (r ∷ rs)
    go true e f = rw e
    go false e f = rw e (f (λ p. n (e, p)))

-- and it gives its code
caught_code : (c : ℕ) (g : List Row) → T (coded c g) → (Passed g → ⊥) → (refusal g).code ≡ c
unfolding refusal
caught_code c [] t n = absurd (n tt)
caught_code c (r ∷ rs) t n = go r.given refl (caught_code c rs (both (eqb r.code c) _ t).1)
  where
    go : (b : Bool) → r.given ≡ b → ((Passed rs → ⊥) → (refusal rs).code ≡ c) → (refusal (r ∷ rs)).code ≡ c
    go true e f = rw e (eqb→eq r.code c (both (eqb r.code c) _ t).0)
    go false e f = rw e (f (λ p. n (e, p)))

-- ---- all groups

-- of the first group and those after it: what they refuse is what the first refuses, or it passes and it is what the others refuse
pub first_or-others : (g : List Row) (gs : List (List Row)) (Q : Refusal → Type 0) → ((Passed g → ⊥) → Q (refusal g)) → (Passed g → Q (refusal (in_order gs))) → Q (refusal (in_order (g ∷ gs)))
first_or-others g gs Q f h = go (passed_dec g)
  where
    go : Dec (Passed g) → Q (refusal (g ++ in_order gs))
    go (yes p) = rw (passed_on g (in_order gs) p) (h p)
    go (no n) = rw (caught g (in_order gs) n) (f n)

-- where each group says what its rule does, the rules give the code that the rows do
pub rows_told : (gs : List (List Row)) (As : List Rule) → Stand gs As → Told As (refusal (in_order gs)).code
unfolding refusal
rows_told [] [] s = refl
rows_told (g ∷ gs) (A ∷ As) s =
    first_or-others g gs (λ f. Told (A ∷ As) f.code)
    (λ n. inr (λ a. n (s.0.1.1 a), caught_code A.code g s.0.0 n))
    (λ p. inl (s.0.1.0 p, rows_told gs As s.1))
rows_told [] (A ∷ As) s = elim s [ ]
rows_told (g ∷ gs) [] s = elim s [ ]

-- ---- what the rules give

-- where no rule has code c, the first does not, nor do the others
other-code : (c : ℕ) (A : Rule) (As : List Rule) → T (absent c (A ∷ As)) → (A.code ≢ c) × T (absent c As)
other-code c A As t =
    let u = both (not (eqb A.code c)) (absent c As) t in
    (λ e. T_not (eqb A.code c) u.0 (rw e (eqb_refl c)), u.1)

-- what is given is 0 or the code of a rule
pub told_among : {c : ℕ} (As : List Rule) → Told As c → (c ≡ 0) ⊎ Among c As
told_among [] t = inl t
told_among (A ∷ As) (inl (a, t)) = ⊎_elim inl (λ m. inr (inr m)) (told_among As t)
told_among (A ∷ As) (inr (n, e)) = inr (inl e)

-- a code that no rule has is among none
pub among_absent : (c : ℕ) (As : List Rule) → T (absent c As) → Among c As → ⊥
among_absent c (A ∷ As) t (inl e) = (other-code c A As t).0 (sym e)
among_absent c (A ∷ As) t (inr m) = among_absent c As (other-code c A As t).1 m
among_absent c [] t x'' = elim x'' [ ]

-- and is not given
told_absent : {c : ℕ} (As : List Rule) → T (absent c As) → c ≢ 0 → Told As c → ⊥
told_absent {c} As t z r = ⊎_elim z (among_absent c As t) (told_among As r)

-- code 0, which stands for no rule, is given exactly when all rules hold
pub told_none : {c : ℕ} (As : List Rule) → T (absent 0 As) → Told As c → c ≡ 0 ↔ All As
told_none [] t e = (λ z. tt, λ q. e)
told_none (A ∷ As) t (inl (a, r)) = let f = told_none As (other-code 0 A As t).1 r in (λ z. (a, f.0 z), λ q. f.1 q.1)
told_none (A ∷ As) t (inr (n, e)) = (λ z. absurd ((other-code 0 A As t).0 (sym e ∙ z)), λ q. absurd (n q.0))

-- a code that one rule has is given exactly when the rules before it hold and its own does not
pub told_code : (c : ℕ) {d : ℕ} (As : List Rule) → c ≢ 0 → T (once c As) → Told As d → d ≡ c ↔ All (before c As) × (rule_of c As → ⊥)
told_code c [] z t e = absurd t
told_code c {d} (A ∷ As) z t e = go (eqb A.code c) refl t e (told_code c As z)
  where
    go : (b : Bool) → eqb A.code c ≡ b → T (cond b (absent c As) (once c As)) → Told (A ∷ As) d → (T (once c As) → Told As d → d ≡ c ↔ All (before c As) × (rule_of c As → ⊥))
        → d ≡ c ↔ All (cond b [] (A ∷ before c As)) × (cond b A.Holds (rule_of c As) → ⊥)
    go true e t (inl (a, r)) next = (λ k. absurd (told_absent As t z (rw k at r)), λ q. absurd (q.1 a))
    go true e t (inr (n, k)) next = (λ _. (tt, n), λ _. k ∙ eqb-true A.code c e)
    go false e t (inl (a, r)) next = let f = next t r in (λ k. let q = f.0 k in ((a, q.0), q.1), λ q. f.1 (q.0.1, q.1))
    go false e t (inr (n, k)) next = (λ m. absurd (eqb-false A.code c e (sym k ∙ m)), λ q. absurd (n q.0.0))

-- ---- what the rows give

-- where the rules before that of a code hold and its own does not, what is refused is what the rows of its group refuse
given_by : (c : ℕ) (gs : List (List Row)) (As : List Rule) → Stand gs As → T (once c As) → All (before c As) × (rule_of c As → ⊥) → refusal (in_order gs) ≡ refusal (group_of c gs As)
given_by c [] [] s t = absurd t
given_by c (g ∷ gs) (A ∷ As) s t = go (eqb A.code c) t (given_by c gs As s.1)
  where
    go : (b : Bool) → T (cond b (absent c As) (once c As)) → (T (once c As) → All (before c As) × (rule_of c As → ⊥) → refusal (in_order gs) ≡ refusal (group_of c gs As))
        → All (cond b [] (A ∷ before c As)) × (cond b A.Holds (rule_of c As) → ⊥) → refusal (in_order (g ∷ gs)) ≡ refusal (cond b g (group_of c gs As))
    go true t next q = caught g (in_order gs) (λ p. q.1 (s.0.1.0 p))
    go false t next q = passed_on g (in_order gs) (s.0.1.1 q.0.0) ∙ next t (q.0.1, q.1)
given_by c [] (A ∷ As) s t = elim s [ ]
given_by c (g ∷ gs) [] s t = elim s [ ]

-- a code that one rule has is due as `Due` says, with the place that its own rows name where its rule does not hold
pub due : (c : ℕ) (gs : List (List Row)) (As : List Rule) → c ≢ 0 → Stand gs As → T (once c As) → {Place : ℕ → Type 0} → ((rule_of c As → ⊥) → Place (refusal (group_of c gs As)).place)
    → Due (refusal (in_order gs)) c (All (before c As)) (rule_of c As) Place
due c gs As z s t f =
    let exactly = told_code c As z t (rows_told gs As s) in
    record { exactly = exactly; place = λ e. let q = exactly.0 e in rw (given_by c gs As s t q) (f q.1) }
