-- What a listed chain promises: it yields its window by the rules of FIRST and FOLLOW, its fields in order are the window's bits, and there is one for every window.
-- Assumes nothing.
use Prim.Native.Nat.{ℕ}
use mathlib.Core.Path.{◌≡◌, refl, sym, ◌∙◌, ap, subst}
use mathlib.Core.List.{List, [], ◌∷◌, ◌++◌, append-nil}
use Rattle.basis.specs.Bits.{Bits}
use Rattle.basis.specs.Lookahead.{lookahead, join}
use Rattle.basis.proofs.Joins.{join_back, join_assoc}
use Rattle.theory.specs.Grammar.{Grammar}
use Rattle.theory.specs.Derivation.{Shape, construct, members}
use Rattle.theory.specs.Lookahead.{First, Follow, Predicted, Conflict}
use Rattle.theory.proofs.Prediction.{continue_predicted}
use Rattle.report_chain_meaning.specs.Chains.{Step, Rest, nothing, after, Spells, listed, Lists, Yields, YieldsAfter, YieldsAlone, fields, Explained}
use Rattle.report_chain_meaning.proofs.Reading.{cut_once, Read, reads}
use Rattle.report_chain_meaning.proofs.Finding.{Found, found, FoundAfter, found_after, then_after}
use Rattle.report_chain_meaning.proofs.Listing.{fields_listed, fields_spell}

module _ {Context Values : Type 0} (g : Grammar Context Values) where
  -- a first window and a follow window are cut already
  first_cut : {what : Shape Context Values} {x : Bits} → First g what x → lookahead x ≡ x
  first_cut (First.of_field bits n a e) = ap lookahead e ∙ (cut_once bits ∙ sym e)
  first_cut First.of_eod = refl
  first_cut (First.of_alternative m f) = first_cut f
  first_cut (First.of_switch m f) = first_cut f
  first_cut (First.of_no_case o) = refl
  first_cut (First.of_use f) = first_cut f
  first_cut (First.of_concatenation f) = first_cut f
  first_cut First.no_members = refl
  first_cut (First.more_members {x = x} {y = y} f fs e) = ap lookahead e ∙ (cut_once (x ++ y) ∙ sym e)
  first_cut (First.of_repetition k a f) = first_cut f
  first_cut First.no_passes = refl
  first_cut (First.more_passes {x = x} {y = y} f fs e) = ap lookahead e ∙ (cut_once (x ++ y) ∙ sym e)

  follow_cut : {i : ℕ} {x : Bits} → Follow g i x → lookahead x ≡ x
  follow_cut (Follow.of_start e) = refl
  follow_cut (Follow.of_rule q f) = follow_cut f
  follow_cut (Follow.of_member {x = x} {y = y} before more q f w e) = ap lookahead e ∙ (cut_once (x ++ y) ∙ sym e)
  follow_cut (Follow.of_branch q m f) = follow_cut f
  follow_cut (Follow.of_case q m f) = follow_cut f
  follow_cut (Follow.of_body {x = x} {y = y} k q f w e) = ap lookahead e ∙ (cut_once (x ++ y) ∙ sym e)

  -- what is read of one construct and of what follows it
  of_both : {i : ℕ} {x y z : Bits} → First g (members (i ∷ [])) y → Follow g i z → x ≡ join y z → Predicted g i x
  of_both {z = z} (First.more_members {x = a} f First.no_members e) w q =
      Predicted.predicted f w (q ∙ (ap (λ (s : Bits). join s z) e ∙ (join_assoc a [] z ∙ join_back a z)))

  of_rest : {i : ℕ} {x y z : Bits} → First g (members []) y → Follow g i z → x ≡ join y z → Follow g i x
  of_rest {i} {x} {z = z} First.no_members w q = subst (Follow g i) (sym (q ∙ follow_cut w)) w

  of_one : {i : ℕ} {x y z : Bits} → First g (members (i ∷ [])) y → z ≡ [] → x ≡ join y z → First g (construct i (g.node i)) x
  of_one {i} {x} {y} {z} (First.more_members {x = a} f First.no_members e) n q =
      subst (First g (construct i (g.node i)))
      (sym (q ∙ (ap (join y) n ∙ (ap lookahead (append-nil y ∙ e) ∙ (cut_once (a ++ []) ∙ (ap lookahead (append-nil a) ∙ first_cut f)))))) f

  -- a listed chain yields a window of its set
  pub yields_predicted : {i : ℕ} {x : Bits} {chain : List Step} → Yields g i x chain → Predicted g i x
  yields_predicted {i} {x} y = by (reads g y.spells)
    where
      by : Read g (i ∷ []) (after i) (lookahead y.bits) → Predicted g i x
      by p = of_both p.first p.behind (y.window ∙ p.joined)

  pub yields_follow : {i : ℕ} {x : Bits} {chain : List Step} → YieldsAfter g i x chain → Follow g i x
  yields_follow {i} {x} y = by (reads g y.spells)
    where
      by : Read g [] (after i) (lookahead y.bits) → Follow g i x
      by p = of_rest p.first p.behind (y.window ∙ p.joined)

  pub yields_first : {i : ℕ} {x : Bits} {chain : List Step} → YieldsAlone g i x chain → First g (construct i (g.node i)) x
  yields_first {i} {x} y = by (reads g y.spells)
    where
      by : Read g (i ∷ []) nothing (lookahead y.bits) → First g (construct i (g.node i)) x
      by p = of_one p.first p.behind (y.window ∙ p.joined)

  -- the fields of a listed chain, in order, are the window
  pub fields_window : {is : List ℕ} {r : Rest} {x : Bits} {chain : List Step} → Lists g is r x chain → fields chain ≡ x
  fields_window y = ap fields y.begins ∙ (fields_listed 8 y.steps ∙ (ap lookahead (fields_spell g y.spells) ∙ sym y.window))

  -- each window of the set has a listed chain
  pub predicted_yields : {i : ℕ} {x : Bits} → Predicted g i x → (chain : List Step) × Yields g i x chain
  predicted_yields {i} {x} (Predicted.predicted f w e) = by (then_after g (found g f refl) (found_after g w) e)
    where
      by : FoundAfter g (i ∷ []) i x → (chain : List Step) × Yields g i x chain
      by p = (listed 8 p.steps, record { bits = p.bits; steps = p.steps; spells = p.spells; window = p.window; begins = refl })

  pub follow_yields : {i : ℕ} {x : Bits} → Follow g i x → (chain : List Step) × YieldsAfter g i x chain
  follow_yields {i} {x} f = by (found_after g f)
    where
      by : FoundAfter g [] i x → (chain : List Step) × YieldsAfter g i x chain
      by p = (listed 8 p.steps, record { bits = p.bits; steps = p.steps; spells = p.spells; window = p.window; begins = refl })

  pub first_yields : {i : ℕ} {x : Bits} → First g (construct i (g.node i)) x → (chain : List Step) × YieldsAlone g i x chain
  first_yields {i} {x} f = alone (found g f refl)
    where
      by : (bits : Bits) → x ≡ lookahead bits → (l : List Step) × Spells g (i ∷ []) nothing bits l → (chain : List Step) × YieldsAlone g i x chain
      by bits e (l, s) = (listed 8 l, record { bits = bits; steps = l; spells = s; window = e; begins = refl })

      alone : Found g (i ∷ []) x → (chain : List Step) × YieldsAlone g i x chain
      alone p = by (p.bits ++ []) (p.window ∙ ap lookahead (sym (append-nil p.bits))) (p.goes [] nothing [] [] Spells.spelt)

  -- each clash has a chain for both of its sides
  pub conflict_explained : {i : ℕ} {x : Bits} → Conflict g i x → Explained g i x
  conflict_explained {i} {x} (Conflict.of_branches {a = a} {b = b} q m n d p r) = by (predicted_yields p) (predicted_yields r)
    where
      by : (chain : List Step) × Yields g a x chain → (chain : List Step) × Yields g b x chain → Explained g i x
      by (one, y) (other, z) = Explained.two_branches one other q m n d y z
  conflict_explained {i} {x} (Conflict.of_passes {b = b} q c f) = by (predicted_yields (continue_predicted g q c)) (follow_yields f)
    where
      by : (chain : List Step) × Yields g b x chain → (chain : List Step) × YieldsAfter g i x chain → Explained g i x
      by (go, y) (stop, z) = Explained.go_and_stop go stop q y z
