-- What a sheet is refused for is what its parts are: the tests and the rows on a sheet say what the rules say.
-- Assumes nothing.
use Prim.Native.Nat.{ℕ, suc, ◌*◌, ◌/◌, ◌%◌}
use Rattle.std.proofs.Common.{add-zero, add-one, arith, sym, subst, ◌∙◌, inl, inr, true≢false, ne_eqb, length-drop}
use Rattle.std.specs.Prelude.{◌≡◌, refl, ◌↔◌, Bool, true, false, eqb, leb, T, length, take}
use Rattle.std.proofs.Math.Path.{ap}
use mathlib.Core.List.{List, [], ◌∷◌, ◌++◌, map, append_assoc}
use Rattle.std.proofs.Math.ListN.{get_or, drop}
use Rattle.std.proofs.Math.Seq.{drop-drop, get_or-drop}
use Rattle.lists.specs.Sums.{from}
use Rattle.packing.specs.Numbers.{total}
use Rattle.terms.specs.Plan.{within}
use Rattle.meaning.specs.Plan.{most_regions, most_sectors, most_edges, most_constraints, most_visits}
use Rattle.refusals.specs.Table.{Row, refused, whole, item, refusal, plan_table, plan_refusal}
use Rattle.refusals.specs.Turn.{coded, coded_first, coded_rest}
use Rattle.blocks.specs.declared.Due.{Due}
use Rattle.blocks.specs.Same.{same, same-eq, eq-same}
use Rattle.blocks.specs.Block.{block_length, first_wrong, wrong}
use Rattle.blocks.specs.Section.{due, no_due}
use Rattle.blocks.specs.Sheet.{block_at, fault_from}
use Rattle.blocks.specs.SheetLaws.{after_block}
use Rattle.form.specs.declared.Form.{Form}
use Rattle.form.specs.declared.Head.{Head}
use Rattle.form.specs.Form.{letters, most_blocks, flight_count, kind_count, form_in, head_widths, dues, Contents, head_in, contents_in}
use Rattle.form.proofs.FormLaws.{head_first}
use Rattle.form.proofs.ContentsLaws.{Counted, counted_in}
use Rattle.form.specs.Refusals.{fault, length_right, flights_right, head_table, head_fault, open_table, contents_refusal, later_fault, held_table}
use Rattle.form.proofs.AcceptedLaws.{fault-rows}
use Rattle.demands.specs.Tables.{Rule, ◌asks◌, All, Told, rows_told}
use Rattle.demands.specs.Rules.{plan_rules, RegionsFit, SectorsFit, EdgeCountFits, ConstraintCountFits}
use Rattle.demands.specs.RuleLaws.{at_most_lem, equal, one_of, both, whole_passes, alone, ◌then◌}
use Rattle.demands.proofs.PlanCodes.{plan_groups, plan_stand}
use Rattle.demands.specs.Parts.{Part, AllParts, Refused, row-refused, part-refused}
use Rattle.demands.specs.SheetRules.{block_rules, head_rules, as_given, contents_rules, block_part, numbers_part, count_part, later_parts, later_count, contents_part, open_parts, sheet_parts}

-- ---- a block

-- a test that fails says that its rule does not hold
fails : {A : Type 0} → false ≡ true ↔ A → A → ⊥
fails f a = true≢false (sym (f.1 a))

-- the code of the first of a block's five tests that fails is what its five rules give
first_told : (a b c d e : Bool) {A B C D E : Type 0} → a ≡ true ↔ A → b ≡ true ↔ B → c ≡ true ↔ C → d ≡ true ↔ D → e ≡ true ↔ E
    → Told ((32 asks A) ∷ (33 asks B) ∷ (34 asks C) ∷ (35 asks D) ∷ (36 asks E) ∷ []) (first_wrong a b c d e)
unfolding first_wrong
first_told false b c d e f g h i j = inr (fails f, refl)
first_told true false c d e f g h i j = inl (f.0 refl, inr (fails g, refl))
first_told true true false d e f g h i j = inl (f.0 refl, inl (g.0 refl, inr (fails h, refl)))
first_told true true true false e f g h i j = inl (f.0 refl, inl (g.0 refl, inl (h.0 refl, inr (fails i, refl))))
first_told true true true true false f g h i j = inl (f.0 refl, inl (g.0 refl, inl (h.0 refl, inl (i.0 refl, inr (fails j, refl)))))
first_told true true true true true f g h i j = inl (f.0 refl, inl (g.0 refl, inl (h.0 refl, inl (i.0 refl, inl (j.0 refl, refl)))))

-- the test that two lists are the same
alike : (xs ys : List ℕ) → same xs ys ≡ true ↔ xs ≡ ys
alike xs ys = (same-eq xs ys, eq-same)

-- what is wrong with a block is what its rules give
pub wrong_told : (letters : List ℕ) (n : ℕ) (d : Due) (block : List ℕ) → Told (block_rules letters n d block) (wrong letters d.kind n d.used block)
unfolding wrong
wrong_told letters n d block = first_told _ _ _ _ _ (alike _ _) (alike _ _) (both (alike _ _) (alike _ _)) (alike _ _) (both (alike _ _) (alike _ _))

module _ (f : Form) (sheet : List ℕ) where
  -- the first of the blocks from n on that is refused, and what follows where none is
  later_refused : (n : ℕ) (ds : List Due) → ds ≡ drop n (dues f (head_in f sheet)) → (rest : List Row) (Qs : List Part)
      → (AllParts (map (block_part f sheet) (from n (length ds))) → Refused Qs (refusal rest))
      → Refused (map (block_part f sheet) (from n (length ds)) ++ Qs) (refusal (fault (fault_from (letters f) n ds (drop (block_length * n) sheet)) ∷ rest))
  unfolding refusal
  later_refused n [] e rest Qs next = next tt
  later_refused n (d ∷ ds) e rest Qs next =
      let all = dues f (head_in f sheet) in
      let own : d ≡ get_or all n no_due = ap (λ (l : List Due). get_or l 0 no_due) e ∙ get_or-drop n all 0 no_due ∙ rw (add-zero n) in
      let others : ds ≡ drop (suc n) all = ap (λ (l : List Due). drop 1 l) e ∙ drop-drop 1 n all ∙ ap (λ (k : ℕ). drop k all) (add-one n) in
      let w = wrong (letters f) d.kind n d.used (block_at sheet n) in
      let later = fault_from (letters f) (suc n) ds (drop (block_length * suc n) sheet) in
      rw (after_block n sheet, ← fault-rows (refused w n) later rest)
      (part-refused (block_part f sheet n) w (fault later ∷ rest) (map (block_part f sheet) (from (suc n) (length ds)) ++ Qs) tt (λ z. z) (rw (← own) (wrong_told (letters f) n d (block_at sheet n)))
      (λ a. later_refused (suc n) ds others rest Qs (λ b. next (a, b))))

-- ---- the head's numbers

-- the rows on the head's numbers, by the call's codes for them
abbrev head_rows : Form → Head → List Row
head_rows f h =
    whole 1 (within 1 h.regions most_regions)
    ∷ whole 2 (within 1 h.sectors most_sectors)
    ∷ whole 4 (leb h.edges most_edges)
    ∷ whole 6 (within 1 h.constraints most_constraints)
    ∷ whole 13 (flights_right f h)
    ∷ []

-- a row told by 37, with its code as the place
abbrev told37 : Row → Row
told37 r = record { code = 37; given = r.given; place = r.code }

-- rows told by 37 are one row on the code that they give
rows_37 : (rows rest : List Row) → T (coded rows) → refusal (item 37 (refusal rows).code ∷ rest) ≡ refusal (map told37 rows ++ rest)
unfolding refusal
rows_37 [] rest t = refl
rows_37 (r ∷ rs) rest t = go r.given refl (rows_37 rs rest (coded_rest r rs t))
  where
    go : (b : Bool) → r.given ≡ b → refusal (item 37 (refusal rs).code ∷ rest) ≡ refusal (map told37 rs ++ rest) → refusal (item 37 (refusal (r ∷ rs)).code ∷ rest) ≡ refusal (map told37 (r ∷ rs) ++ rest)
    go true e next = rw (e, ne_eqb r.code 0 (coded_first r rs t))
    go false e next = rw e next

-- the code that they give is what the head's rules give
head_told : (f : Form) (h : Head) → Told (head_rules f h) (refusal (head_rows f h)).code
head_told f h =
    rows_told (map (λ r. r ∷ []) (head_rows f h)) (head_rules f h)
    (alone (whole_passes 1 (one_of most_regions h.regions))
    then alone (whole_passes 2 (one_of most_sectors h.sectors))
    then alone (whole_passes 4 (at_most_lem h.edges most_edges))
    then alone (whole_passes 6 (one_of most_constraints h.constraints))
    then alone (whole_passes 13 (both (at_most_lem h.flights (flight_count f)) (both (at_most_lem h.flights h.visits) (at_most_lem h.visits (most_visits * h.flights)))))
    then tt)

-- ---- what the blocks hold

-- a rule that holds doesn't matter
told_skip : (c : ℕ) (As : List Rule) (A : Rule) (Bs : List Rule) → A.Holds → Told (As ++ (A ∷ Bs)) c → Told (As ++ Bs) c
told_skip c [] A Bs a (inl (_, t)) = t
told_skip c [] A Bs a (inr (n, e)) = absurd (n a)
told_skip c (B ∷ As) A Bs a (inl (b, t)) = inl (b, told_skip c As A Bs a t)
told_skip c (B ∷ As) A Bs a (inr (n, e)) = inr (n, e)

-- with numbers of the head that keep to their rules, codes 3, 14, 5, 13, 7 and 8 are left for what is held
contents_told : (f : Form) (h : Head) (k : Contents) → Counted h k → All (head_rules f h) → Told (contents_rules f k) (contents_refusal f k).code
unfolding plan_table plan_refusal
contents_told f h k n (regions, (sectors, (edges, (constraints, rest)))) =
    let g = as_given k in
    let c = (contents_refusal f k).code in
    let rs = plan_rules (kind_count f) g in
    let cs = contents_rules f k in
    let r : RegionsFit g = rw n.regions regions in
    let s : SectorsFit g = rw n.sectors sectors in
    let e : EdgeCountFits g = (omega (arith, n.edges), omega (arith, n.edges, edges)) in
    let t : ConstraintCountFits g = (omega (arith, n.constraints), record { low = omega (arith, n.constraints, constraints.low); high = omega (arith, n.constraints, constraints.high) }) in
    told_skip c (take 4 cs) (6 asks ConstraintCountFits g) (drop 4 cs) t
    (told_skip c (take 2 cs) (4 asks EdgeCountFits g) (drop 5 rs) e
    (told_skip c [] (2 asks SectorsFit g) (drop 2 rs) s (told_skip c [] (1 asks RegionsFit g) (drop 1 rs) r (rows_told (plan_groups (kind_count f) g ++ []) (rs ++ []) (plan_stand (kind_count f) g [] [] tt)))))

-- ---- all of a sheet

-- what is due of the head
head_due : (f : Form) (sheet : List ℕ) → get_or (dues f (head_in f sheet)) 0 no_due ≡ due 1 (total (head_widths f))
head_due f sheet = rw (head_first f (head_in f sheet))

module _ (f : Form) (sheet : List ℕ) (more : List Row) (Ms : List Part) (next : Refused Ms (refusal more)) where
  -- the rows on what is held, on the later blocks, and on the number of blocks, each with those after it
  abbrev held_rows : List Row
  held_rows = item 37 (contents_refusal f (contents_in f sheet)).code ∷ more

  abbrev later_rows : List Row
  later_rows = fault (later_fault f (head_in f sheet) sheet) ∷ held_rows

  abbrev count_rows : List Row
  count_rows = whole 38 (eqb (length sheet / block_length) (length (dues f (head_in f sheet)))) ∷ later_rows

  -- the parts of those rows
  abbrev later_all : List Part
  later_all = later_parts f sheet (later_count f sheet) ++ (contents_part f sheet ∷ Ms)

  -- the later blocks, where the head's numbers keep to their rules, and what follows
  later_all_lem : All (head_rules f (head_in f sheet)) → Refused later_all (refusal later_rows)
  later_all_lem limits =
      let h = head_in f sheet in
      rw (← length-drop 1 (dues f h))
      (later_refused f sheet 1 (drop 1 (dues f h)) refl held_rows (contents_part f sheet ∷ Ms)
      (λ _. part-refused (contents_part f sheet) (contents_refusal f (contents_in f sheet)).code more Ms tt (λ _ e. omega arith) (contents_told f h (contents_in f sheet) (counted_in f sheet) limits) (λ _. next)))

  -- the head's numbers, and what follows
  numbers-all : Refused (numbers_part f sheet ∷ count_part f sheet ∷ later_all) (refusal (head_table f (head_in f sheet) ++ count_rows))
  numbers-all =
      let h = head_in f sheet in
      let n = length (dues f h) in
      rw (← rows_37 (head_rows f h) count_rows tt)
      (part-refused (numbers_part f sheet) (refusal (head_rows f h)).code count_rows (count_part f sheet ∷ later_all) tt (λ _ e. omega arith) (head_told f h)
      (λ limits. row-refused (whole 38 (eqb (length sheet / block_length) n)) later_rows later_all (λ e. omega arith) (whole_passes 38 (equal (length sheet / block_length) n)) (λ _. later_all_lem limits)))

  -- the length and the head as a block, and what follows
  open_all : Refused (open_parts f sheet ++ later_all) (refusal (open_table f sheet ++ held_table f sheet ++ more))
  unfolding open_table held_table
  open_all =
      let numbers = head_table f (head_in f sheet) ++ count_rows in
      let head = fault (record { code = head_fault f sheet; place = 0 }) in
      row-refused (whole 31 (length_right sheet)) (head ∷ numbers) (block_part f sheet 0 ∷ numbers_part f sheet ∷ count_part f sheet ∷ later_all) (λ e. omega arith)
      (whole_passes 31 (both (equal (length sheet % block_length) 0) (one_of (most_blocks (form_in sheet)) (length sheet / block_length))))
      (λ _. part-refused (block_part f sheet 0) (head_fault f sheet) numbers (numbers_part f sheet ∷ count_part f sheet ∷ later_all) tt (λ z. z)
      (rw (head_due f sheet) (wrong_told (letters f) 0 (due 1 (total (head_widths f))) (block_at sheet 0))) (λ _. numbers-all))

  -- what a sheet is refused for, and then the rows after it, is what its parts are, and then the parts of those rows
  pub sheet_refused : Refused (sheet_parts f sheet ++ Ms) (refusal (open_table f sheet ++ held_table f sheet ++ more))
  sheet_refused =
      subst (λ (Ps : List Part). Refused (open_parts f sheet ++ Ps) (refusal (open_table f sheet ++ held_table f sheet ++ more)))
      (sym (append_assoc (later_parts f sheet (later_count f sheet)) (contents_part f sheet ∷ []) Ms)) open_all
