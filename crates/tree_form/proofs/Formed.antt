-- Every text: its form is right exactly when its tokens spell a tree, and else it is refused at the first fault.
-- Assumes nothing.
use Prim.Native.Nat.{ℕ}
use mathlib.Core.Path.{sym, ◌∙◌}
use mathlib.Core.List.{List}
use Rattle.text_store.specs.Store.{State}
use Rattle.tree_form.specs.Spelled.{Formed}
use Rattle.tree_form.proofs.Right.{complete, sound, unique}
use Rattle.tree_form.proofs.Places.{refused_first, first_refused}

pub formed : (xs : List ℕ) (st : State) → Formed xs st
formed xs st =
    record {
      spelled_right = λ t end e. complete xs t end st e;
      right_spelled = λ f e. sound xs st f e;
      one_tree = λ t t' end end' a b. unique t t' end end' (sym a ∙ b);
      refused_first = λ p e. refused_first xs st p e;
      first_refused = λ p f. first_refused xs st p f;
    }
