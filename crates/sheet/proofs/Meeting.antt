-- A row of a text that passes: admitted with its weight, and every run on its frame is what the theory's machine makes of its tree's grammar; and what
-- has to be shown of each row.
-- Assumes nothing.
use Prim.Native.Nat.{ℕ, ◌≤◌}
use Prim.Native.String.{String}
use mathlib.Core.Path.{◌≡◌, refl, subst, subst₂}
use mathlib.Core.List.{List, [], ◌∷◌}
use lib.ListN.{length}
use Rattle.basis.specs.Limits.{max_frame_bytes}
use Rattle.theory.specs.Derivation.{Capture}
use Rattle.theory.specs.Machine.{Tests}
use Rattle.run_refinement.specs.Runs.{words_of}
use Rattle.tree.specs.Tree.{Rules}
use Rattle.tree_meaning.specs.Grammar.{tree_grammar}
use Rattle.text_admission.specs.declared.Admission.{Admission}
use Rattle.admission.specs.Texts.{TreeOf}
use Rattle.admission.specs.Promised.{Promised}
use Rattle.admission.proofs.Rows.{one_tree}
use Rattle.run_matcher.specs.Opening.{Opened}
use Rattle.run_matcher.specs.Windows.{Tells}
use Rattle.conditions.specs.Conditions.{TextTable}
use Rattle.conditions.proofs.Tables.{text_table}
use Rattle.conditions.proofs.Conditions.{condition_3}
use Rattle.sheet.specs.Sheet.{text_of, Verdict, refused, clash, run, Row, row, Says, Each}
use Rattle.sheet.proofs.Nodes.{Passing}
use Rattle.sheet.proofs.Admitting.{tree_of, admitted}
use Rattle.sheet.proofs.Running.{Makes, ended}

module _ (rules : String) (t : Rules) (weight : ℕ) (p : Passing rules t weight) where
  -- however the grammar's windows are looked up
  runs_as : (frame : List ℕ) → length frame ≤ max_frame_bytes → (d : Verdict) (n : ℕ) (values : List ℕ) (cs : List Capture)
      → ((tests : Tests) → Tells (tree_grammar t) tests → Makes (tree_grammar t) tests frame d n values cs) → Says (row rules (run weight frame d n values (words_of cs)))
  runs_as frame short d n values cs m old new answer l a =
      let e : answer ≡ Admission.Admitted weight = admitted rules t weight p old l new answer a in
      let b : Promised (text_of rules) old new (Admission.Admitted weight) = subst (Promised (text_of rules) old new) e a in
      let x : TreeOf (text_of rules) = tree_of p.formed in
      let y : TextTable (text_of rules) new weight = text_table (text_of rules) old new weight b in
      let (tests, told) = subst (λ (z : Rules). (tests : Tests) × Tells (tree_grammar z) tests) (one_tree y.tree x).1 y.windows in (
        e,
        λ rs room. (
            let o : Opened new frame rs = (y.sound, short, room) in
            (o, ended new frame rs o (tree_grammar t) weight (condition_3 (text_of rules) new weight (record { old = old; left = new; promised = b; copy = (y.sound.0, refl) }) x frame rs o) tests told d n values cs (m tests told))
            ),
      )

-- ---- what is shown of a row. The row's own numbers stand in no proof: what is found is compared with them.

-- of a text that passes: its tree, and the fields that the theory's machine records
pub record RunShown (rules : String) (weight : ℕ) (frame : List ℕ) (d : Verdict) (n : ℕ) (values reading : List ℕ) : Type 0 where
  pub tree : Rules
  pub passing : Passing rules tree weight
  pub short : length frame ≤ max_frame_bytes
  pub captures : List Capture
  pub recorded : words_of captures ≡ reading
  pub makes : (tests : Tests) → Tells (tree_grammar tree) tests → Makes (tree_grammar tree) tests frame d n values captures

abbrev pub Shown : Row → Type 0
Shown (row rules (refused n p)) = (m : ℕ) × (q : ℕ) × Says (row rules (refused m q)) × (m ≡ n) × (q ≡ p)
Shown (row rules (clash p w)) = (q : ℕ) × (v : ℕ) × Says (row rules (clash q v)) × (q ≡ p) × (v ≡ w)
Shown (row rules (run weight frame d n values reading)) = RunShown rules weight frame d n values reading

shown : (r : Row) → Shown r → Says r
shown (row rules (refused n p)) (m, q, s, e, f) = subst₂ (λ (a b : ℕ). Says (row rules (refused a b))) e f s
shown (row rules (clash p w)) (q, v, s, e, f) = subst₂ (λ (a b : ℕ). Says (row rules (clash a b))) e f s
shown (row rules (run weight frame d n values reading)) x =
    subst (λ (l : List ℕ). Says (row rules (run weight frame d n values l))) x.recorded (runs_as rules x.tree weight x.passing frame x.short d n values x.captures x.makes)

pub each_shown : (rs : List Row) → Each Shown rs → Each Says rs
each_shown [] x = tt
each_shown (r ∷ rs) x = (shown r x.0, each_shown rs x.1)
