-- Codes 31 to 38, as any call gives them that goes through a sheet first: when each is given, and with which place.
-- Assumes nothing.
use Rattle.std.specs.Prelude.{ℕ, zero, suc, ◌+◌, ◌-◌, ◌≤◌, ◌<◌, ◌≡◌, ◌≢◌, ◌⊎◌, ◌↔◌, List, [], ◌∷◌, ◌++◌, map, T}
use Rattle.std.proofs.Common.{zero-add, add-zero, add-suc, suc-add, arith, sym, ap, subst, ◌∙◌, inl, inr, ⊎_elim, append_assoc}
use Rattle.std.proofs.Math.Decide.{dec_lt}
use Rattle.lists.specs.Sums.{from, up_to}
use Rattle.refusals.specs.declared.Refusal.{Refusal}
use Rattle.refusals.specs.Table.{refused}
use Rattle.form.specs.declared.Form.{Form}
use Rattle.form.specs.Form.{head_in, contents_in}
use Rattle.demands.specs.Tables.{All, before, rule_of, absent, once, Among, Due, told_code, among_absent}
use Rattle.demands.specs.Rules.{CountsFit, VisitsFit}
use Rattle.demands.specs.Parts.{Part, AllParts, Broken, Refused, Listed, DueAt, Never, broken_named, broken_37, broken-whole, never_listed, never_append, never_none, never_first, never_later, all_first, rule_breaks, part-due, whole-due}
use Rattle.demands.specs.SheetRules.{LengthFits, rules_at, HeadFlightsFit, head_rules, BlocksFit, as_given, contents_rules, length_part, block_part, numbers_part, count_part, later_parts, later_count, contents_part, open_parts, blocks_parts, sheet_parts, BeforeBlock, BeforeNumbers, BeforeCount, BeforeContents, NoSheetCode, SheetCodes}
use Rattle.demands.specs.SheetNames.{named_block}

-- parts by number, up to one of them, that one, and those after it
parts_at : (P : ℕ → Part) (k a b : ℕ) → map P (from k (a + suc b)) ≡ map P (from k a) ++ (P (k + a) ∷ map P (from (suc (k + a)) b))
parts_at P k zero b = rw (zero-add (suc b), add-zero k)
parts_at P k (suc a) b = rw (suc-add a (suc b), add-suc k a, ← suc-add k a) (ap (λ (Ps : List Part). P k ∷ Ps) (parts_at P (suc k) a b))

module _ (f : Form) (sheet : List ℕ) (Ms : List Part) (r : Refusal) (told : Refused (sheet_parts f sheet ++ Ms) r) (last : Listed Ms r → NoSheetCode r.code) where
  -- the parts after the number of blocks
  abbrev rest_parts : List Part
  rest_parts = later_parts f sheet (later_count f sheet) ++ (contents_part f sheet ∷ Ms)

  -- the parts from the length on
  t : Refused (open_parts f sheet ++ rest_parts) r
  t = subst (λ (Ps : List Part). Refused (open_parts f sheet ++ Ps) r) (append_assoc (later_parts f sheet (later_count f sheet)) (contents_part f sheet ∷ []) Ms) told

  -- ---- what each part is broken with

  -- a block with its number, and a code of 32 to 36
  on_block : (n : ℕ) → Broken (block_part f sheet n) r → (r.place ≡ n) × ((32 ≤ r.code) × (r.code ≤ 36))
  on_block n b = named_block f sheet r n (broken_named b)

  -- the head's numbers with 37, and the code of their rule
  on_numbers : Broken (numbers_part f sheet) r → (r.code ≡ 37) × Among r.place (head_rules f (head_in f sheet))
  on_numbers b = broken_37 (head_rules f (head_in f sheet)) b

  -- so what is held
  on_contents : Broken (contents_part f sheet) r → (r.code ≡ 37) × Among r.place (contents_rules f (contents_in f sheet))
  on_contents b = broken_37 (contents_rules f (contents_in f sheet)) b

  -- blocks of which none is broken with it
  never_blocks : (k n : ℕ) → ((m : ℕ) → k ≤ m → m < k + n → Broken (block_part f sheet m) r → ⊥) → Never (map (block_part f sheet) (from k n)) r
  never_blocks k zero h = tt
  never_blocks k (suc n) h = (h k (omega arith) (omega arith), never_blocks (suc k) n (λ m lo hi. h m (omega arith) (omega arith)))

  -- nor is what follows the sheet, with one of 31 to 38
  never_last : 31 ≤ r.code → r.code < 39 → Never Ms r
  never_last h l = never_listed r Ms (λ m. omega (arith, last m h))

  -- nor is any of those after the number of blocks
  never_rest : ((m : ℕ) → 1 ≤ m → m < 1 + later_count f sheet → Broken (block_part f sheet m) r → ⊥) → (Broken (contents_part f sheet) r → ⊥) → 31 ≤ r.code → r.code < 39 → Never rest_parts r
  never_rest later contents h l = never_append r (later_parts f sheet (later_count f sheet)) (contents_part f sheet ∷ Ms) (never_blocks 1 (later_count f sheet) later) (contents, never_last h l)

  -- ---- the codes

  -- the length
  due_31 : Due r 31 (AllParts []) (LengthFits sheet) (λ place. place ≡ 0)
  due_31 =
      whole-due r [] 31 (LengthFits sheet) (block_part f sheet 0 ∷ numbers_part f sheet ∷ count_part f sheet ∷ rest_parts) (omega arith) t
      (λ e.
      let later : (m : ℕ) → Broken (block_part f sheet m) r → ⊥ = λ m b. omega (arith, (on_block m b).1.0) in
      (tt, (later 0, (λ b. omega (arith, (on_numbers b).0), (λ b. omega (arith, broken-whole b), never_rest (λ m lo hi. later m) (λ b. omega (arith, (on_contents b).0)) (omega arith) (omega arith))))))

  -- the number of blocks
  due_38 : Due r 38 (BeforeCount f sheet) (BlocksFit f sheet) (λ place. place ≡ 0)
  due_38 =
      whole-due r (length_part sheet ∷ block_part f sheet 0 ∷ numbers_part f sheet ∷ []) 38 (BlocksFit f sheet) rest_parts (omega arith) t
      (λ e.
      let later : (m : ℕ) → Broken (block_part f sheet m) r → ⊥ = λ m b. omega (arith, (on_block m b).1.1) in
      ((λ b. omega (arith, broken-whole b), (later 0, (λ b. omega (arith, (on_numbers b).0), tt))), never_rest (λ m lo hi. later m) (λ b. omega (arith, (on_contents b).0)) (omega arith) (omega arith)))

  -- a number of the head that only it names
  due-number : (p : ℕ) → p ≢ 0 → T (once p (head_rules f (head_in f sheet))) → T (absent p (contents_rules f (contents_in f sheet)))
      → DueAt r 37 p (BeforeNumbers f sheet × All (before p (head_rules f (head_in f sheet)))) (rule_of p (head_rules f (head_in f sheet)))
  due-number p z o a =
      part-due r (length_part sheet ∷ block_part f sheet 0 ∷ []) (numbers_part f sheet) (count_part f sheet ∷ rest_parts) t p z o (λ e. omega arith)
      (λ d e. ap (λ (x : Refusal). x.place) e)
      (λ code place.
      let later : (m : ℕ) → Broken (block_part f sheet m) r → ⊥ = λ m b. omega (arith, (on_block m b).1.1) in
      let contents : Broken (contents_part f sheet) r → ⊥ = λ b. among_absent p (contents_rules f (contents_in f sheet)) a (rw place at (on_contents b).1) in
      ((λ b. omega (arith, broken-whole b), (later 0, tt)), (λ b. omega (arith, broken-whole b), never_rest (λ m lo hi. later m) contents (omega arith) (omega arith))))

  -- what is held, for a code that only it names
  due-contents : (p : ℕ) → p ≢ 0 → T (once p (contents_rules f (contents_in f sheet))) → T (absent p (head_rules f (head_in f sheet)))
      → DueAt r 37 p (BeforeContents f sheet × All (before p (contents_rules f (contents_in f sheet)))) (rule_of p (contents_rules f (contents_in f sheet)))
  due-contents p z o a =
      part-due r (blocks_parts f sheet) (contents_part f sheet) Ms t p z o (λ e. omega arith)
      (λ d e. ap (λ (x : Refusal). x.place) e)
      (λ code place.
      let later : (m : ℕ) → Broken (block_part f sheet m) r → ⊥ = λ m b. omega (arith, (on_block m b).1.1) in
      let numbers : Broken (numbers_part f sheet) r → ⊥ = λ b. among_absent p (head_rules f (head_in f sheet)) a (rw place at (on_numbers b).1) in
      ((λ b. omega (arith, broken-whole b), (later 0, (numbers, (λ b. omega (arith, broken-whole b), never_blocks 1 (later_count f sheet) (λ m lo hi. later m))))), never_last (omega arith) (omega arith)))

  module _ (c : ℕ) (low : 32 ≤ c) (high : c ≤ 36) where
    -- the parts after block n + 1
    abbrev after_block : ℕ → List Part
    after_block n = map (block_part f sheet) (from (suc (suc n)) (later_count f sheet - suc n)) ++ (contents_part f sheet ∷ Ms)

    -- the parts, cut at block n + 1
    cut_at : (n : ℕ) → n < later_count f sheet → Refused ((open_parts f sheet ++ later_parts f sheet n) ++ (block_part f sheet (suc n) ∷ after_block n)) r
    cut_at n l =
        let P = block_part f sheet in
        let e : later_count f sheet ≡ n + suc (later_count f sheet - suc n) = omega arith in
        let m : 1 + n ≡ suc n = omega arith in
        let parts : later_parts f sheet (later_count f sheet) ≡ later_parts f sheet n ++ (P (suc n) ∷ map P (from (suc (suc n)) (later_count f sheet - suc n))) =
        ap (λ (x : ℕ). map P (up_to x)) e ∙ rw m at (parts_at P 1 n (later_count f sheet - suc n)) in
        subst (λ (x : List Part). Refused (open_parts f sheet ++ x) r)
        (ap (λ (x : List Part). x ++ (contents_part f sheet ∷ Ms)) parts ∙ append_assoc (later_parts f sheet n) (P (suc n) ∷ map P (from (suc (suc n)) (later_count f sheet - suc n))) (contents_part f sheet ∷ Ms))
        t

    module _ (n : ℕ) (code : r.code ≡ c) (place : r.place ≡ suc n) where
      -- what is refused of block n + 1 is refused neither before the later blocks
      never_open : Never (open_parts f sheet) r
      never_open = (λ b. omega (arith, broken-whole b), (λ b. omega (arith, (on_block 0 b).0), (λ b. omega (arith, (on_numbers b).0), (λ b. omega (arith, broken-whole b), tt))))

      -- nor after it
      never_after : (k m : ℕ) → suc n < k → Never (map (block_part f sheet) (from k m) ++ (contents_part f sheet ∷ Ms)) r
      never_after k m h =
          never_append r (map (block_part f sheet) (from k m)) (contents_part f sheet ∷ Ms) (never_blocks k m (λ j lo hi b. omega (arith, (on_block j b).0))) (λ b. omega (arith, (on_contents b).0), never_last (omega arith) (omega arith))

      -- a later block that is refused is one of those due
      due_later : n < later_count f sheet
      due_later = go (dec_lt n (later_count f sheet))
        where
          go : Dec (n < later_count f sheet) → n < later_count f sheet
          go (yes l) = l
          go (no m) =
              let rest = never_rest (λ j lo hi b. m (omega (arith, (on_block j b).0))) (λ b. omega (arith, (on_contents b).0)) (omega arith) (omega arith) in
              let z = ap (λ (x : Refusal). x.code) (never_none (open_parts f sheet ++ rest_parts) (never_append r (open_parts f sheet) rest_parts never_open rest) t) in
              absurd (omega arith)

    -- a later block that is due, for one of its codes
    there : (n : ℕ) → T (once c (rules_at f sheet (suc n))) → n < later_count f sheet
        → DueAt r c (suc n) (AllParts (open_parts f sheet ++ later_parts f sheet n) × All (before c (rules_at f sheet (suc n)))) (rule_of c (rules_at f sheet (suc n)))
    there n o l =
        part-due r (open_parts f sheet ++ later_parts f sheet n) (block_part f sheet (suc n)) (after_block n) (cut_at n l) c (omega arith) o (omega arith) (λ d e. ap (λ (x : Refusal). x.code) e)
        (λ code place. (
          never_append r (open_parts f sheet) (later_parts f sheet n) (never_open n code place) (never_blocks 1 n (λ m lo hi b. omega (arith, (on_block m b).0))),
          never_after n code place (suc (suc n)) (later_count f sheet - suc n) (omega arith),
        ))

    -- any block, for one of its codes
    due_block : (n : ℕ) → T (once c (rules_at f sheet n)) → DueAt r c n (BeforeBlock f sheet n × All (before c (rules_at f sheet n))) (rule_of c (rules_at f sheet n))
    due_block zero o =
        part-due r (length_part sheet ∷ []) (block_part f sheet 0) (numbers_part f sheet ∷ count_part f sheet ∷ rest_parts) t c (omega arith) o (omega arith)
        (λ d e. ap (λ (x : Refusal). x.code) e)
        (λ code place. (
          (λ b. omega (arith, broken-whole b), tt),
          (λ b. omega (arith, (on_numbers b).0), (λ b. omega (arith, broken-whole b), never_rest (λ m lo hi b. omega (arith, (on_block m b).0)) (λ b. omega (arith, (on_contents b).0)) (omega arith) (omega arith))),
        ))
    due_block (suc n) o = (
      λ e. let l = due_later n (ap (λ (x : Refusal). x.code) e) (ap (λ (x : Refusal). x.place) e) in let q = (there n o l).0 e in (((l, q.0.0), q.0.1), q.1),
      λ q. (there n o q.0.0.0).1 ((q.0.0.1, q.0.1), q.1),
    )

  -- 37 is given for the head's numbers or for what is held
  by_37 : r.code ≡ 37 → (BeforeNumbers f sheet × Broken (numbers_part f sheet) r) ⊎ (BeforeContents f sheet × Broken (contents_part f sheet) r)
  by_37 code =
      let later : (m : ℕ) → Broken (block_part f sheet m) r → ⊥ = λ m b. omega (arith, (on_block m b).1.1) in
      let q = never_first r (length_part sheet ∷ block_part f sheet 0 ∷ []) (numbers_part f sheet ∷ count_part f sheet ∷ rest_parts) (λ b. omega (arith, broken-whole b), (later 0, tt)) t in
      go later (λ b. omega (arith, broken-whole b)) code q.0 q.1
    where
      go : ((m : ℕ) → Broken (block_part f sheet m) r → ⊥) → (Broken (count_part f sheet) r → ⊥) → r.code ≡ 37 → BeforeNumbers f sheet → Refused (numbers_part f sheet ∷ count_part f sheet ∷ rest_parts) r
          → (BeforeNumbers f sheet × Broken (numbers_part f sheet) r) ⊎ (BeforeContents f sheet × Broken (contents_part f sheet) r)
      go later count code (long, (head, _)) (inl (numbers, u)) =
          let q = never_first r (count_part f sheet ∷ later_parts f sheet (later_count f sheet)) (contents_part f sheet ∷ Ms) (count, never_blocks 1 (later_count f sheet) (λ m lo hi. later m)) u in
          inr ((long, (head, (numbers, q.0))), never_later (contents_part f sheet) Ms (never_last (omega arith) (omega arith)) (λ z. omega arith) q.1)
      go later count code reached (inr b) = inl (reached, b)

  -- its places are those of their rules
  places_37 : r.code ≡ 37 → Among r.place (head_rules f (head_in f sheet)) ⊎ (BeforeContents f sheet × Among r.place (contents_rules f (contents_in f sheet)))
  places_37 code = ⊎_elim (λ q. inl (on_numbers q.1).1) (λ q. inr (q.0, (on_contents q.1).1)) (by_37 code)

  -- place 13 is one of either
  due_flights : r ≡ refused 37 13
      ↔ ((BeforeNumbers f sheet × All (before 13 (head_rules f (head_in f sheet)))) × (HeadFlightsFit f (head_in f sheet) → ⊥))
      ⊎ ((BeforeContents f sheet × All (before 13 (contents_rules f (contents_in f sheet)))) × (CountsFit (as_given (contents_in f sheet)) × VisitsFit (as_given (contents_in f sheet)) → ⊥))
  due_flights = (
    λ e.
        let named : (x : ℕ) → r ≡ refused 37 x → x ≡ 13 = λ x n. ap (λ (y : Refusal). y.place) (sym n ∙ e) in
        ⊎_elim
        (λ q. let w = (told_code 13 (head_rules f (head_in f sheet)) (omega arith) tt q.1.told).0 (named q.1.code q.1.names) in inl ((q.0, w.0), w.1))
        (λ q. let w = (told_code 13 (contents_rules f (contents_in f sheet)) (omega arith) tt q.1.told).0 (named q.1.code q.1.names) in inr ((q.0, w.0), w.1))
        (by_37 (ap (λ (y : Refusal). y.code) e)),
    ⊎_elim
        (λ q. rule_breaks (numbers_part f sheet) (count_part f sheet ∷ rest_parts) 13 (omega arith) tt (q.0.1, q.1) (all_first r (length_part sheet ∷ block_part f sheet 0 ∷ []) (numbers_part f sheet ∷ count_part f sheet ∷ rest_parts) q.0.0 t))
        (λ q. rule_breaks (contents_part f sheet) Ms 13 (omega arith) tt (q.0.1, q.1) (all_first r (blocks_parts f sheet) (contents_part f sheet ∷ Ms) q.0.0 t)),
  )

  -- no part of a sheet gives another code
  pub never_sheet : NoSheetCode r.code → Never (sheet_parts f sheet) r
  never_sheet other =
      let off : 31 ≤ r.code → r.code ≤ 38 → ⊥ = λ l h. omega (arith, other l) in
      let later : (m : ℕ) → Broken (block_part f sheet m) r → ⊥ = λ m b. off (omega (arith, (on_block m b).1.0)) (omega (arith, (on_block m b).1.1)) in
      never_append r (blocks_parts f sheet) (contents_part f sheet ∷ []) (
        λ b. let e = broken-whole b in off (omega arith) (omega arith),
        (
          later 0,
          (
            λ b. let e = (on_numbers b).0 in off (omega arith) (omega arith),
            (λ b. let e = broken-whole b in off (omega arith) (omega arith), never_blocks 1 (later_count f sheet) (λ m lo hi. later m)),
          ),
        ),
      )
      (λ b. let e = (on_contents b).0 in off (omega arith) (omega arith), tt)

  -- all codes of a sheet
  pub sheet_codes : SheetCodes f sheet r
  sheet_codes =
      record {
        code_31 = due_31;
        code_32 = λ n. due_block 32 (omega arith) (omega arith) n tt;
        code_33 = λ n. due_block 33 (omega arith) (omega arith) n tt;
        code_34 = λ n. due_block 34 (omega arith) (omega arith) n tt;
        code_35 = λ n. due_block 35 (omega arith) (omega arith) n tt;
        code_36 = λ n. due_block 36 (omega arith) (omega arith) n tt;
        code_37_1 = due-number 1 (omega arith) tt tt;
        code_37_2 = due-number 2 (omega arith) tt tt;
        code_37_4 = due-number 4 (omega arith) tt tt;
        code_37_6 = due-number 6 (omega arith) tt tt;
        code_38 = due_38;
        code_37_3 = due-contents 3 (omega arith) tt tt;
        code_37_14 = due-contents 14 (omega arith) tt tt;
        code_37_5 = due-contents 5 (omega arith) tt tt;
        code_37_7 = due-contents 7 (omega arith) tt tt;
        code_37_8 = due-contents 8 (omega arith) tt tt;
        code_37_13 = due_flights;
        places_37 = places_37;
      }
