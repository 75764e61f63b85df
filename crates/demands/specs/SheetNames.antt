-- Which codes the parts of a sheet name, and with which places.
-- Assumes nothing.
use Rattle.std.specs.Prelude.{ℕ, zero, suc, ◌≤◌, ◌≡◌, List, [], ◌∷◌, map}
use Rattle.std.proofs.Common.{arith, ap, inl, inr, ⊎_elim}
use Rattle.lists.specs.Sums.{from}
use Rattle.refusals.specs.declared.Refusal.{Refusal}
use Rattle.blocks.specs.declared.Due as blocks
use Rattle.blocks.specs.Sheet.{block_at}
use Rattle.form.specs.declared.Form.{Form}
use Rattle.form.specs.Form.{letters}
use Rattle.demands.specs.Tables.{Among}
use Rattle.demands.specs.Parts.{Named, Listed, named_whole, listed_append}
use Rattle.demands.specs.SheetRules.{block_rules, due_at, block_part, later_parts, later_count, contents_part, sheet_parts}

-- the codes of a block are 32 to 36
block_codes : (c : ℕ) (letters : List ℕ) (n : ℕ) (d : blocks.Due) (block : List ℕ) → Among c (block_rules letters n d block) → (32 ≤ c) × (c ≤ 36)
block_codes c letters n d block (inl e) = (omega arith, omega arith)
block_codes c letters n d block (inr (inl e)) = (omega arith, omega arith)
block_codes c letters n d block (inr (inr (inl e))) = (omega arith, omega arith)
block_codes c letters n d block (inr (inr (inr (inl e)))) = (omega arith, omega arith)
block_codes c letters n d block (inr (inr (inr (inr (inl e))))) = (omega arith, omega arith)
block_codes c letters n d block (inr (inr (inr (inr (inr x5))))) = elim x5 [ ]

module _ (f : Form) (sheet : List ℕ) (r : Refusal) where
  -- a block names one of them, with its number
  pub named_block : (n : ℕ) → Named (block_part f sheet n) r → (r.place ≡ n) × ((32 ≤ r.code) × (r.code ≤ 36))
  named_block n m = (
    ap (λ (x : Refusal). x.place) m.names,
    rw (ap (λ (x : Refusal). x.code) m.names) (block_codes m.code (letters f) n (due_at f sheet n) (block_at sheet n) m.among),
  )

  -- so do blocks in turn
  named_blocks : (k n : ℕ) → Listed (map (block_part f sheet) (from k n)) r → (31 ≤ r.code) × (r.code ≤ 38)
  named_blocks k (suc n) (inl m) = let c = (named_block k m).1 in (omega (arith, c.0), omega (arith, c.1))
  named_blocks k (suc n) (inr l) = named_blocks (suc k) n l
  named_blocks k zero x' = elim x' [ ]

  -- the codes of a sheet are 31 to 38
  pub sheet_range : Listed (sheet_parts f sheet) r → (31 ≤ r.code) × (r.code ≤ 38)
  sheet_range (inl m) = (omega (arith, named_whole m), omega (arith, named_whole m))
  sheet_range (inr (inl m)) = let c = (named_block 0 m).1 in (omega (arith, c.0), omega (arith, c.1))
  sheet_range (inr (inr (inl m))) = let c = ap (λ (x : Refusal). x.code) m.names in (omega arith, omega arith)
  sheet_range (inr (inr (inr (inl m)))) = (omega (arith, named_whole m), omega (arith, named_whole m))
  sheet_range (inr (inr (inr (inr l)))) = ⊎_elim (named_blocks 1 (later_count f sheet)) held (listed_append r (later_parts f sheet (later_count f sheet)) (contents_part f sheet ∷ []) l)
    where
      held : Listed (contents_part f sheet ∷ []) r → (31 ≤ r.code) × (r.code ≤ 38)
      held (inl m) = let c = ap (λ (x : Refusal). x.code) m.names in (omega arith, omega arith)
      held (inr x5) = elim x5 [ ]
