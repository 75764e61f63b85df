-- A table in parts, each with rules of its own, beside what is refused where a rule of a part does not hold: when it is, in which part.
-- Assumes nothing.
use Rattle.std.specs.Prelude.{ℕ, ◌≡◌, refl, ◌≢◌, ◌⊎◌, ◌↔◌, Bool, true, false, not, List, [], ◌∷◌, ◌++◌, eqb, T}
use Rattle.std.proofs.Math.Decide.{ℕ_discrete}
use Rattle.std.proofs.Common.{sym, ap, ◌∙◌, inl, inr, ⊎_elim, true≢false, eq-eqb, ne_eqb}
use Rattle.refusals.specs.declared.Refusal.{Refusal}
use Rattle.refusals.specs.Table.{Row, refused, none, refusal}
use Rattle.demands.specs.Tables.{Rule, ◌asks◌, All, before, rule_of, absent, once, Among, Told, Due, told_among, told_none, told_code}

-- ---- definitions

-- a part: its rules by their codes, and what is refused where the rule of a code is the first of them that does not hold
pub record Part : Type 1 where
  pub rules : List Rule
  pub names : ℕ → Refusal

-- a part whose rules are told by their own codes, with this place
abbrev pub placed : ℕ → List Rule → Part
placed place As = record { rules = As; names = λ code. refused code place }

-- a part whose rules are told by code 37, with their codes as the place
abbrev pub as37 : List Rule → Part
as37 As = record { rules = As; names = λ code. refused 37 code }

-- a part of one rule, which names no place
abbrev pub whole_part : ℕ → Type 0 → Part
whole_part code Holds = placed 0 ((code asks Holds) ∷ [])

-- all rules of all parts hold
abbrev pub AllParts : List Part → Type 0
AllParts [] = Unit {0}
AllParts (P ∷ Ps) = All P.rules × AllParts Ps

-- a part is broken: its rules give a code, and this is refused for it
pub record Broken (P : Part) (r : Refusal) : Type 0 where
  pub code : ℕ
  pub some : code ≢ 0
  pub told : Told P.rules code
  pub names : r ≡ P.names code
  pub coded : r.code ≢ 0

-- the parts, checked in their order, refuse this: what the first that is broken is refused for, or none where all rules hold
abbrev pub Refused : List Part → Refusal → Type 0
Refused [] r = r ≡ none
Refused (P ∷ Ps) r = (All P.rules × Refused Ps r) ⊎ Broken P r

-- a part names a refusal: it is what is refused for one of its rules
pub record Named (P : Part) (r : Refusal) : Type 0 where
  pub code : ℕ
  pub among : Among code P.rules
  pub names : r ≡ P.names code

-- one of the parts names it
abbrev pub Listed : List Part → Refusal → Type 0
Listed [] r = ⊥
Listed (P ∷ Ps) r = Named P r ⊎ Listed Ps r

-- this code with this place is given exactly when what is checked before it holds and its own rule does not
abbrev pub DueAt : Refusal → ℕ → ℕ → Type 0 → Type 0 → Type 0
DueAt given code place Before Rule = given ≡ refused code place ↔ Before × (Rule → ⊥)

-- none of these parts is ever broken with this refusal
abbrev pub Never : List Part → Refusal → Type 0
Never [] r = Unit {0}
Never (P ∷ Ps) r = (Broken P r → ⊥) × Never Ps r

-- ---- one part

-- rules that all hold give no code
all_told : {c : ℕ} (As : List Rule) → All As → Told As c → c ≡ 0
all_told [] a t = t
all_told (A ∷ As) a (inl (_, t)) = all_told As a.1 t
all_told (A ∷ As) a (inr (n, e)) = absurd (n a.0)

-- a part of which all rules hold is not broken
all_sound : {r : Refusal} (P : Part) → All P.rules → Broken P r → ⊥
all_sound P a b = b.some (all_told P.rules a b.told)

-- a broken part names what is refused
pub broken_named : {P : Part} {r : Refusal} → Broken P r → Named P r
broken_named {P} b = record { code = b.code; among = ⊎_elim (λ e. absurd (b.some e)) (λ m. m) (told_among P.rules b.told); names = b.names }

-- what a part told by 37 is broken with has the code of a rule as its place
pub broken_37 : {r : Refusal} (As : List Rule) → Broken (as37 As) r → (r.code ≡ 37) × Among r.place As
broken_37 As b = let m = broken_named b in (ap (λ (f : Refusal). f.code) m.names, rw (ap (λ (f : Refusal). f.place) m.names) m.among)

-- what a part of one rule names has its code
pub named_whole : {r : Refusal} {c : ℕ} {A : Type 0} → Named (whole_part c A) r → r.code ≡ c
named_whole {c = c} m = ap (λ (f : Refusal). f.code) m.names ∙ go m.among
  where
    go : {d : ℕ} → (d ≡ c) ⊎ ⊥ → d ≡ c
    go (inl e) = e
    go {d = d} (inr x') = elim x' [ ]

-- so has what it is broken with
pub broken-whole : {r : Refusal} {c : ℕ} {A : Type 0} → Broken (whole_part c A) r → r.code ≡ c
broken-whole b = named_whole (broken_named b)

-- ---- all parts

-- what the parts refuse is none, or one of them names it
pub refused_listed : {r : Refusal} (Ps : List Part) → Refused Ps r → (r ≡ none) ⊎ Listed Ps r
refused_listed [] e = inl e
refused_listed (P ∷ Ps) (inl (a, t)) = ⊎_elim inl (λ l. inr (inr l)) (refused_listed Ps t)
refused_listed (P ∷ Ps) (inr b) = inr (inl (broken_named b))

-- what one of the first parts or of the others names
pub listed_append : (r : Refusal) (Ps Qs : List Part) → Listed (Ps ++ Qs) r → Listed Ps r ⊎ Listed Qs r
listed_append r [] Qs l = inr l
listed_append r (P ∷ Ps) Qs (inl m) = inl (inl m)
listed_append r (P ∷ Ps) Qs (inr l) = ⊎_elim (λ x. inl (inr x)) inr (listed_append r Ps Qs l)

-- where all rules hold, nothing is refused
all_none : {r : Refusal} (Ps : List Part) → AllParts Ps → Refused Ps r → r ≡ none
all_none [] a e = e
all_none (P ∷ Ps) a (inl (_, t)) = all_none Ps a.1 t
all_none (P ∷ Ps) a (inr b) = absurd (all_sound P a.0 b)

-- code 0 is given exactly when all rules of all parts hold
pub parts_none : (r : Refusal) (Ps : List Part) → Refused Ps r → r.code ≡ 0 ↔ AllParts Ps
parts_none r Ps t = (holds Ps t, λ a. ap (λ (f : Refusal). f.code) (all_none Ps a t))
  where
    holds : (Ps : List Part) → Refused Ps r → r.code ≡ 0 → AllParts Ps
    holds [] e z = tt
    holds (P ∷ Ps) (inl (a, t)) z = (a, holds Ps t z)
    holds (P ∷ Ps) (inr b) z = absurd (b.coded z)

-- with code 0 the place is 0
pub none-refused : (r : Refusal) (Ps : List Part) → Refused Ps r → r.code ≡ 0 → r ≡ none
none-refused r Ps t z = all_none Ps ((parts_none r Ps t).0 z) t

-- where parts are not broken, nothing is refused
pub never_none : {r : Refusal} (Ps : List Part) → Never Ps r → Refused Ps r → r ≡ none
never_none [] n e = e
never_none (P ∷ Ps) n (inl (a, t)) = never_none Ps n.1 t
never_none (P ∷ Ps) n (inr b) = absurd (n.0 b)

-- parts that don't name a refusal are not broken with it
pub never_listed : (r : Refusal) (Ps : List Part) → (Listed Ps r → ⊥) → Never Ps r
never_listed r [] n = tt
never_listed r (P ∷ Ps) n = (λ b. n (inl (broken_named b)), never_listed r Ps (λ l. n (inr l)))

-- parts that are not broken, and others after them
pub never_append : (r : Refusal) (Ps Qs : List Part) → Never Ps r → Never Qs r → Never (Ps ++ Qs) r
never_append r [] Qs n m = m
never_append r (P ∷ Ps) Qs n m = (n.0, never_append r Ps Qs n.1 m)

-- where the first parts are not broken, their rules hold, and the others decide
pub never_first : (r : Refusal) (Ps Qs : List Part) → Never Ps r → Refused (Ps ++ Qs) r → AllParts Ps × Refused Qs r
never_first r [] Qs n t = (tt, t)
never_first r (P ∷ Ps) Qs n (inl (a, t)) = let q = never_first r Ps Qs n.1 t in ((a, q.0), q.1)
never_first r (P ∷ Ps) Qs n (inr b) = absurd (n.0 b)

-- where the rules of the first parts hold, the others decide
pub all_first : (r : Refusal) (Ps Qs : List Part) → AllParts Ps → Refused (Ps ++ Qs) r → Refused Qs r
all_first r [] Qs a t = t
all_first r (P ∷ Ps) Qs a (inl (_, t)) = all_first r Ps Qs a.1 t
all_first r (P ∷ Ps) Qs a (inr b) = absurd (all_sound P a.0 b)

-- rules that all hold give code 0
told_all : (As : List Rule) → All As → Told As 0
told_all [] a = refl
told_all (A ∷ As) a = inl (a.0, told_all As a.1)

module _ {r : Refusal} (P : Part) (Qs : List Part) where
  -- a part that may be broken, where those after it are not, is: something is refused
  pub never_later : Never Qs r → r.code ≢ 0 → Refused (P ∷ Qs) r → Broken P r
  never_later n z (inl (a, t)) = absurd (z (ap (λ (f : Refusal). f.code) (never_none Qs n t)))
  never_later n z (inr b) = b

  -- where a rule does not hold, and those before it in its part do, the part is refused for it
  pub rule_breaks : (c : ℕ) → c ≢ 0 → T (once c P.rules) → All (before c P.rules) × (rule_of c P.rules → ⊥) → Refused (P ∷ Qs) r → r ≡ P.names c
  rule_breaks c z o q (inl (a, t)) = absurd (z (sym ((told_code c P.rules z o (told_all P.rules a)).1 q)))
  rule_breaks c z o q (inr b) = b.names ∙ ap P.names ((told_code c P.rules z o b.told).1 q)

-- ---- a part among the others

module _ (r : Refusal) (Ps : List Part) (P : Part) (Qs : List Part) (t : Refused (Ps ++ (P ∷ Qs)) r) where
  -- where something is refused that no other part names, the parts before this one hold, and it is broken
  pub part-broken : r.code ≢ 0 → Never Ps r × Never Qs r → AllParts Ps × Broken P r
  part-broken z n = let q = never_first r Ps (P ∷ Qs) n.0 t in (q.0, never_later P Qs n.1 z q.1)

  -- what only this part names is refused for one of its rules exactly when the parts before it hold, and in it the rules before that one, and it does not
  pub part-due : (c : ℕ) → c ≢ 0 → T (once c P.rules) → (P.names c).code ≢ 0 → ((d : ℕ) → P.names d ≡ P.names c → d ≡ c) → (r.code ≡ (P.names c).code → r.place ≡ (P.names c).place → Never Ps r × Never Qs r)
      → r ≡ P.names c ↔ (AllParts Ps × All (before c P.rules)) × (rule_of c P.rules → ⊥)
  part-due c z o k i n = (
    λ e.
        let code = ap (λ (f : Refusal). f.code) e in
        let q = part-broken (λ m. k (sym code ∙ m)) (n code (ap (λ (f : Refusal). f.place) e)) in
        let b = q.1 in
        let u = (told_code c P.rules z o b.told).0 (i b.code (sym b.names ∙ e)) in
        ((q.0, u.0), u.1),
    λ q. rule_breaks P Qs c z o (q.0.1, q.1) (all_first r Ps (P ∷ Qs) q.0.0 t),
  )

-- a part of one rule whose code no other part names: it is given exactly when the parts before it hold and the rule does not, with no place
pub whole-due : (r : Refusal) (Ps : List Part) (c : ℕ) (A : Type 0) (Qs : List Part) → c ≢ 0 → Refused (Ps ++ (whole_part c A ∷ Qs)) r → (r.code ≡ c → Never Ps r × Never Qs r)
    → Due r c (AllParts Ps) A (λ place. place ≡ 0)
whole-due r Ps c A Qs z t n =
    record {
      exactly = (
        λ e. let q = broken e in (q.0, off q.1.told q.1.some),
        λ q. ap (λ (f : Refusal). f.code) (rule_breaks (whole_part c A) Qs c z (rw (eq-eqb c c refl) tt) (rw (eq-eqb c c refl) (tt, q.1)) (all_first r Ps (whole_part c A ∷ Qs) q.0 t)),
      );
      place = λ e. ap (λ (f : Refusal). f.place) (broken e).1.names;
    }
  where
    broken : r.code ≡ c → AllParts Ps × Broken (whole_part c A) r
    broken e = part-broken r Ps (whole_part c A) Qs t (λ m. z (sym e ∙ m)) (n e)

    off : {d : ℕ} → Told ((c asks A) ∷ []) d → d ≢ 0 → A → ⊥
    off (inl (a, e)) s = absurd (s e)
    off (inr (m, e)) s = m

-- ---- tables

-- a row on one rule, and what follows where it holds
pub row-refused : (row : Row) {A : Type 0} (rest : List Row) (Qs : List Part) → row.code ≢ 0 → row.given ≡ false ↔ A → (A → Refused Qs (refusal rest))
    → Refused (placed row.place ((row.code asks A) ∷ []) ∷ Qs) (refusal (row ∷ rest))
unfolding refusal
row-refused row {A} rest Qs z f next = go row.given refl
  where
    go : (b : Bool) → row.given ≡ b → Refused (placed row.place ((row.code asks A) ∷ []) ∷ Qs) (refusal (row ∷ rest))
    go true e =
        let n : A → ⊥ = λ a. true≢false (sym e ∙ f.1 a) in
        rw e (inr (record { code = row.code; some = z; told = inr (n, refl); names = refl; coded = z }))
    go false e = let a = f.0 e in rw e (inl ((a, tt), next a))

-- a row that tells the code of a part's rules, and what follows where they hold
pub part-refused : (P : Part) (c : ℕ) (rest : List Row) (Qs : List Part) → T (absent 0 P.rules) → (c ≢ 0 → (P.names c).code ≢ 0) → Told P.rules c → (All P.rules → Refused Qs (refusal rest))
    → Refused (P ∷ Qs) (refusal (record { code = (P.names c).code; given = not (eqb c 0); place = (P.names c).place } ∷ rest))
unfolding refusal
part-refused P c rest Qs s k t next = go (ℕ_discrete c 0)
  where
    go : Dec (c ≡ 0) → Refused (P ∷ Qs) (refusal (record { code = (P.names c).code; given = not (eqb c 0); place = (P.names c).place } ∷ rest))
    go (yes e) = let a = (told_none P.rules s t).0 e in rw (eq-eqb c 0 e) (inl (a, next a))
    go (no n) = rw (ne_eqb c 0 n) (inr (record { code = c; some = n; told = t; names = refl; coded = k n }))
