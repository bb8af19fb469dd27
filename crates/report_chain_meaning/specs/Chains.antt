-- How a window comes about: the fields that spell it, in order, through rules, passes and what follows, by the rules of FIRST and FOLLOW (document 01's first and
-- follow windows). Nothing here is about how a chain is found.
-- Assumes nothing.
use Rattle.std.specs.Prelude.{ℕ, zero, suc, ◌-◌, min, ◌≡◌, Bool, true, false, ◌≢◌, List, [], ◌∷◌, ◌++◌, length, take, replicate}
use Rattle.std.proofs.Math.Option.{Option}
use Rattle.basis.specs.Bits.{Bits}
use Rattle.basis.specs.Counts.{Counts, Allows}
use Rattle.basis.specs.Lookahead.{lookahead}
use Rattle.theory.specs.Grammar.{alternative, concatenation, repetition, switch, use_of, field, eod, Grammar, ◌∈◌}

-- a step of a chain, with the number of the construct that it is about
pub data Step : Type 0 where
  -- a field and the bits that it takes
  takes : (i : ℕ) (bits : Bits) → Step
  -- into the rule that a use names
  enters : (i : ℕ) → Step
  -- so many passes of a repetition
  repeats : (i passes : ℕ) → Step
  -- an eod
  ends : (i : ℕ) → Step
  -- out of a rule, to what follows a use of it
  leaves : (i : ℕ) → Step
  -- so many further passes of a repetition, after one of its passes
  goes_on : (i passes : ℕ) → Step
  -- the frame's end, after the start rule
  frame_end : Step
  -- a switch that takes nothing
  passes_over : (i : ℕ) → Step

-- what comes behind the constructs that are still to be read: nothing, or what follows a construct
pub data Rest : Type 0 where
  nothing : Rest
  after : (i : ℕ) → Rest

-- `Spells g is r bits chain`: the constructs `is`, one after the other, and then `r` spell these bits by this chain. Which branch, member or owner is gone to is no step
-- of its own: the next step's construct shows it.
pub data Spells {Context Values : Type 0} (g : Grammar Context Values) : List ℕ → Rest → Bits → List Step → Type 0 where
  spelt : Spells g [] nothing [] []
  -- "of a field, the leading 8 bits (or all, if fewer) of each bit pattern it admits, a set with a variable counting as `~`": here all its bits
  by_field : {i : ℕ} {is : List ℕ} {r : Rest} {x y : Bits} {l : List Step} {w : Bits → ℕ} {admits : Context → Values → Bits → Bool} {static : Bits → Bool} {binds : Context → Values → Bits → Values} (bits : Bits)
      → g.node i ≡ field w admits static binds → length bits ≡ w bits → static bits ≡ true → Spells g is r y l → x ≡ bits ++ y → Spells g (i ∷ is) r x (takes i bits ∷ l)
  -- "of eod, the empty one"
  by_eod : {i : ℕ} {is : List ℕ} {r : Rest} {x : Bits} {l : List Step} → g.node i ≡ eod → Spells g is r x l → Spells g (i ∷ is) r x (ends i ∷ l)
  -- "of alternatives and switches, the union"
  by_branch : {i b : ℕ} {is bs : List ℕ} {r : Rest} {x : Bits} {l : List Step} → g.node i ≡ alternative bs → b ∈ bs → Spells g (b ∷ is) r x l → Spells g (i ∷ is) r x l
  by_case : {i b : ℕ} {is bs : List ℕ} {r : Rest} {x : Bits} {l : List Step} {chosen : Context → Values → Option ℕ} {optional : Bool}
      → g.node i ≡ switch chosen optional bs → b ∈ bs → Spells g (b ∷ is) r x l → Spells g (i ∷ is) r x l
  -- "a switch without a default also has the empty first window" (Req 02)
  by_no_case : {i : ℕ} {is bs : List ℕ} {r : Rest} {x : Bits} {l : List Step} {chosen : Context → Values → Option ℕ} {optional : Bool}
      → g.node i ≡ switch chosen optional bs → optional ≡ true → Spells g is r x l → Spells g (i ∷ is) r x (passes_over i ∷ l)
  -- "of a rule use, its rule's"
  by_use : {i b : ℕ} {is : List ℕ} {r : Rest} {x : Bits} {l : List Step} {into : Context → Option Context} {opens : Context → Values → Values} {closes : Values → Values → Values}
      → g.node i ≡ use_of into opens closes b → Spells g (b ∷ is) r x l → Spells g (i ∷ is) r x (enters i ∷ l)
  -- "of a concatenation, the joined windows"
  by_members : {i : ℕ} {is ms : List ℕ} {r : Rest} {x : Bits} {l : List Step} → g.node i ≡ concatenation ms → Spells g (ms ++ is) r x l → Spells g (i ∷ is) r x l
  -- "of a repetition, the join of k passes for each k its counts allow, counts with a variable allowing all"
  by_passes : {i b : ℕ} {is : List ℕ} {r : Rest} {x : Bits} {l : List Step} {counts : Context → Values → Counts} {static : Counts} {fixed : Bool} (k : ℕ)
      → g.node i ≡ repetition counts static fixed b → Allows static k → Spells g (replicate k b ++ is) r x l → Spells g (i ∷ is) r x (repeats i k ∷ l)
  -- "of the start rule, the empty one": what follows its opening use
  at_end : {i : ℕ} → i ≡ g.start → Spells g [] (after i) [] (frame_end ∷ [])
  -- "of a rule, also those of all its uses"
  after_rule : {i b : ℕ} {x : Bits} {l : List Step} {into : Context → Option Context} {opens : Context → Values → Values} {closes : Values → Values → Values}
      → g.node i ≡ use_of into opens closes b → Spells g [] (after i) x l → Spells g [] (after b) x (leaves i ∷ l)
  -- "of a member, the first windows of the members after it, joined with its concatenation's follow"
  after_member : {i m : ℕ} {x : Bits} {l : List Step} (before more : List ℕ)
      → g.node i ≡ concatenation (before ++ m ∷ more) → Spells g more (after i) x l → Spells g [] (after m) x l
  -- "of a branch or a case, its owner's"
  after_branch : {i b : ℕ} {bs : List ℕ} {x : Bits} {l : List Step} → g.node i ≡ alternative bs → b ∈ bs → Spells g [] (after i) x l → Spells g [] (after b) x l
  after_case : {i b : ℕ} {bs : List ℕ} {x : Bits} {l : List Step} {chosen : Context → Values → Option ℕ} {optional : Bool}
      → g.node i ≡ switch chosen optional bs → b ∈ bs → Spells g [] (after i) x l → Spells g [] (after b) x l
  -- "of a repeated body, zero or more further passes, joined with the repetition's follow": none is no step
  after_last_pass : {i b : ℕ} {x : Bits} {l : List Step} {counts : Context → Values → Counts} {static : Counts} {fixed : Bool}
      → g.node i ≡ repetition counts static fixed b → Spells g [] (after i) x l → Spells g [] (after b) x l
  after_pass : {i b : ℕ} {x : Bits} {l : List Step} {counts : Context → Values → Counts} {static : Counts} {fixed : Bool} (k : ℕ)
      → g.node i ≡ repetition counts static fixed b → Spells g (replicate (suc k) b) (after i) x l → Spells g [] (after b) x (goes_on i (suc k) ∷ l)

-- these steps, as long as bits are to be spelt
abbrev pub wanted : ℕ → List Step → List Step
wanted zero l = []
wanted (suc n) l = l

-- A window has at most 8 bits, and a list ends where they are spelt: the steps up to the field that takes the last of n bits, that field with those bits alone. Of passes
-- 8 stands for 8 or more.
unfoldable pub listed : ℕ → List Step → List Step
listed n [] = []
listed n (takes i bits ∷ l) = wanted n (takes i (take n bits) ∷ listed (n - length bits) l)
listed n (enters i ∷ l) = wanted n (enters i ∷ listed n l)
listed n (repeats i k ∷ l) = wanted n (repeats i (min 8 k) ∷ listed n l)
listed n (ends i ∷ l) = wanted n (ends i ∷ listed n l)
listed n (leaves i ∷ l) = wanted n (leaves i ∷ listed n l)
listed n (goes_on i k ∷ l) = wanted n (goes_on i (min 8 k) ∷ listed n l)
listed n (frame_end ∷ l) = wanted n (frame_end ∷ listed n l)
listed n (passes_over i ∷ l) = wanted n (passes_over i ∷ listed n l)

-- a listed chain of constructs and of what comes behind them: a chain to the end of both that begins so, and the window that it spells
pub record Lists {Context Values : Type 0} (g : Grammar Context Values) (is : List ℕ) (r : Rest) (x : Bits) (chain : List Step) : Type 0 where
  -- all bits, and all steps
  pub bits : Bits
  pub steps : List Step
  pub spells : Spells g is r bits steps
  pub window : x ≡ lookahead bits
  pub begins : chain ≡ listed 8 steps

-- the chain yields the window x from construct i on: "a branch's windows are its first joined with its follow"
abbrev pub Yields : {Context Values : Type 0} → Grammar Context Values → ℕ → Bits → List Step → Type 0
Yields g i x chain = Lists g (i ∷ []) (after i) x chain

-- the chain yields the window x from what follows construct i: "*stop* is follow"
abbrev pub YieldsAfter : {Context Values : Type 0} → Grammar Context Values → ℕ → Bits → List Step → Type 0
YieldsAfter g i x chain = Lists g [] (after i) x chain

-- the chain yields the window x from construct i alone: its first windows
abbrev pub YieldsAlone : {Context Values : Type 0} → Grammar Context Values → ℕ → Bits → List Step → Type 0
YieldsAlone g i x chain = Lists g (i ∷ []) nothing x chain

-- the bits that the fields of a chain take, in order
unfoldable pub fields : List Step → Bits
fields [] = []
fields (takes i bits ∷ l) = bits ++ fields l
fields (enters i ∷ l) = fields l
fields (repeats i k ∷ l) = fields l
fields (ends i ∷ l) = fields l
fields (leaves i ∷ l) = fields l
fields (goes_on i k ∷ l) = fields l
fields (frame_end ∷ l) = fields l
fields (passes_over i ∷ l) = fields l

-- Both sides of a clash with their chains: "a window common to two branches of one alternative, or to go and stop". That going on has the window is said from the
-- body on, as one pass and what follows it.
pub data Explained {Context Values : Type 0} (g : Grammar Context Values) (i : ℕ) (x : Bits) : Type 0 where
  two_branches : {a b : ℕ} {is : List ℕ} (one other : List Step) → g.node i ≡ alternative is → a ∈ is → b ∈ is → a ≢ b → Yields g a x one → Yields g b x other → Explained g i x
  go_and_stop : {b : ℕ} {counts : Context → Values → Counts} {static : Counts} (go stop : List Step) → g.node i ≡ repetition counts static false b
      → Yields g b x go → YieldsAfter g i x stop → Explained g i x
