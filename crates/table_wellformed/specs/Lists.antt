-- The lists of terms: each stands where the one before it ends, and is well formed for its kind.
-- Assumes nothing.
use Rattle.std.specs.Prelude.{ℕ, zero, suc, ◌+◌, ◌*◌, Bool, true, false, cond, ◌&&◌, ◌||◌, List, ltb, eqb, ℤ, pos, replicate, Result, Ok, Err, ⊤}
use Rattle.basis.specs.Limits.{max_variables}
use Rattle.term_words.specs.Words.{terms}
use Rattle.term_words.specs.declared.Kind.{Kind}
use Rattle.term_sizes.specs.Sizes.{sizes, count_sizes}
use Rattle.table_layout.specs.Places.{word, terms_at, construct_count, term_count, construct_word}
use Rattle.table_layout.specs.Constructs.{construct_at}
use Rattle.table_layout.specs.Attributes.{attributes_of}
use Rattle.table_layout.specs.Held.{term_words}
use Rattle.table_layout.specs.declared.Construct.{Construct}
use Rattle.table_layout.specs.declared.OwnList.{OwnList}
use Rattle.table_wellformed.specs.Checks.{limited}
use Rattle.term_sizes.specs.declared.SizeError.{SizeError}

-- ---- a construct's own list: the counts of `{…}`, the set of a uint; 0, 0 where it has none

-- from
abbrev pub list_start : OwnList → ℕ
list_start OwnList.None = 0
list_start (OwnList.Counts start end) = start
list_start (OwnList.Set start end) = start

-- and up to
abbrev pub list_end : OwnList → ℕ
list_end OwnList.None = 0
list_end (OwnList.Counts start end) = end
list_end (OwnList.Set start end) = end

-- of any construct: from
abbrev pub own_start : Construct → ℕ
own_start c = list_start (attributes_of c).own

-- and up to
abbrev pub own_end : Construct → ℕ
own_end c = list_end (attributes_of c).own

-- ---- "one list after the other with nothing between"

-- a list from `start` up to `end`, where there is one, begins at p
abbrev pub begins : ℕ → ℕ → ℕ → Bool
begins p start end = cond (ltb start end) (eqb start p) true

-- where the next list is to begin
abbrev pub after : ℕ → ℕ → ℕ → ℕ
after p start end = cond (ltb start end) end p

-- where the own list of construct i is to begin, if its condition is to begin at p
abbrev pub after_condition : List ℕ → ℕ → ℕ → ℕ
after_condition ws i p = after p (construct_word ws i 6) (construct_word ws i 7)

-- the lists of construct i: its condition's, then its own
abbrev pub lists_begin : List ℕ → ℕ → ℕ → Bool
lists_begin ws i p =
    begins p (construct_word ws i 6) (construct_word ws i 7) && begins (after_condition ws i p) (own_start (construct_at ws i)) (own_end (construct_at ws i))

-- and where the lists of the next construct are
abbrev pub after_lists : List ℕ → ℕ → ℕ → ℕ
after_lists ws i p = after (after_condition ws i p) (own_start (construct_at ws i)) (own_end (construct_at ws i))

-- those of n constructs from i on, the first at p, the last up to the number of terms
unfoldable pub lists_from : ℕ → List ℕ → ℕ → ℕ → Bool
lists_from zero ws i p = eqb p (term_count ws)
lists_from (suc n) ws i p = elim (lists_begin ws i p) [ true ↦ lists_from n ws (i + 1) (after_lists ws i p) | false ↦ false ]

-- the lists of all constructs
abbrev pub lists_laid : List ℕ → Bool
lists_laid ws = lists_from (construct_count ws) ws 0 0

-- ---- each well formed for its kind; that its sizes stay within 2^62 is refusal 8, and asked elsewhere

abbrev pub formed : Result ⊤ SizeError → Bool
formed (Ok u) = true
formed (Err SizeError.Malformed) = false
formed (Err (SizeError.Exceeds at)) = true

-- a list's form does not depend on the values: all are 0
abbrev pub zero_values : List ℤ
zero_values = replicate max_variables (pos 0)

-- a set or a condition
abbrev pub list_formed : Kind → List ℕ → ℕ → ℕ → Bool
list_formed kind ws start end = formed (sizes kind zero_values start (terms (term_words ws) start end))

-- the counts of `{…}`
abbrev pub counts_formed : List ℕ → ℕ → ℕ → Bool
counts_formed ws start end = formed (count_sizes zero_values (term_words ws) start end)

-- the condition of construct i, where it has one
abbrev pub condition_formed : List ℕ → ℕ → Bool
condition_formed ws i =
    cond (ltb (construct_word ws i 6) (construct_word ws i 7)) (list_formed Kind.Condition ws (construct_word ws i 6) (construct_word ws i 7)) true

-- ---- a term's three words: a number has a low and a high word (Req 10: numbers to 2^62), a variable's use a low one

-- the tags of a number and of a variable's use, also where they are an item `a` of a set
abbrev pub has_low : ℕ → Bool
has_low tag = limited 1 tag 2 || limited 33 tag 34

-- the tags of a number
abbrev pub has_high : ℕ → Bool
has_high tag = eqb tag 1 || eqb tag 33

-- what a term's tag gives no meaning to is 0
abbrev pub term_laid : List ℕ → ℕ → Bool
term_laid ws t =
    (has_low (word ws (terms_at + 3 * t)) || eqb (word ws (terms_at + 3 * t + 1)) 0) && (has_high (word ws (terms_at + 3 * t)) || eqb (word ws (terms_at + 3 * t + 2)) 0)
