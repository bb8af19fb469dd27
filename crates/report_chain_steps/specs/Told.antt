-- What the numbers of a listed chain say: three for each entry, a tag, a construct and a value.
-- Assumes nothing.
use Rattle.std.specs.Prelude.{ℕ, zero, suc, ◌+◌, ◌*◌, ◌≡◌, cond, List, [], ◌∷◌, ◌++◌, eqb, length, get_or}
use Rattle.table_layout.specs.Held.{opening}
use Rattle.table_first_follow.specs.Sets.{FirstSets, FollowSets, family_words}
use Rattle.report_chain_meaning.specs.Chains.{Step, takes, enters, repeats, ends, leaves, goes_on, frame_end, passes_over}
use Rattle.report_chains.specs.Strings.{string}

-- the steps of one entry. The frame's end comes after the start rule, whose opening use it leaves; tags from 9 on say which branch, member or owner is gone to, and are no step
unfoldable pub steps_of : ℕ → ℕ → ℕ → List Step
steps_of tag i v =
    cond (eqb tag 1) (takes i (string v) ∷ [])
    (cond (eqb tag 2) (enters i ∷ [])
    (cond (eqb tag 3) (repeats i v ∷ [])
    (cond (eqb tag 4) (ends i ∷ [])
    (cond (eqb tag 5) (leaves i ∷ [])
    (cond (eqb tag 6) (goes_on i v ∷ [])
    (cond (eqb tag 7) (leaves opening ∷ frame_end ∷ [])
    (cond (eqb tag 8) (passes_over i ∷ []) [])))))))

-- the steps of n entries from entry k on
unfoldable pub told : List ℕ → ℕ → ℕ → List Step
unfolding steps_of
told steps k zero = []
told steps k (suc n) = steps_of (get_or steps (3 * k) 0) (get_or steps (3 * k + 1) 0) (get_or steps (3 * k + 2) 0) ++ told steps (k + 1) n

-- the families that a chain is checked by are the FIRST and FOLLOW sets
abbrev pub FirstFamily : List ℕ → List ℕ → Type 0
FirstFamily ws first = (length first ≡ family_words) × FirstSets ws first

abbrev pub Families : List ℕ → List ℕ → List ℕ → Type 0
Families ws first follow = (length first ≡ family_words) × (length follow ≡ family_words) × FirstSets ws first × FollowSets ws follow
