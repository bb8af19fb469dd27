use Rattle.run_grants.specs.Runs.{fitting}
use borrow.Author.Tests.{le-leb, lt-leb}
use Rattle.run_grants.proofs.fits.Goals as goal

-- src/lib.rt:105:9
pub returns-then-table-lt-TABLE_WORDS : goal.returns-then-table-lt-TABLE_WORDS
unfolding fitting
returns-then-table-lt-TABLE_WORDS c = simp (lt-leb _ _ c.if-table-lt-TABLE_WORDS.true)

-- src/lib.rt:108:9
pub returns-then-bits-position : goal.returns-then-bits-position
unfolding fitting
returns-then-bits-position c = simp (le-leb _ _ c.if-table-lt-TABLE_WORDS.false, lt-leb _ _ c.if-bits-position.true)

-- src/lib.rt:111:9
pub returns-then-verdict-gt4 : goal.returns-then-verdict-gt4
unfolding fitting
returns-then-verdict-gt4 c = simp (le-leb _ _ c.if-table-lt-TABLE_WORDS.false, le-leb _ _ c.if-bits-position.false, lt-leb _ _ c.if-verdict-gt4.true)

-- src/lib.rt:114:9
pub returns-then-count-gt-MAX_ENTRIES : goal.returns-then-count-gt-MAX_ENTRIES
unfolding fitting
returns-then-count-gt-MAX_ENTRIES c = simp (le-leb _ _ c.if-table-lt-TABLE_WORDS.false, le-leb _ _ c.if-bits-position.false, le-leb _ _ c.if-verdict-gt4.false, lt-leb _ _ c.if-count-gt-MAX_ENTRIES.true)

-- src/lib.rt:117:9
pub returns-then-entries_fit : goal.returns-then-entries_fit
unfolding fitting
returns-then-entries_fit c = simp (le-leb _ _ c.if-table-lt-TABLE_WORDS.false, le-leb _ _ c.if-bits-position.false, le-leb _ _ c.if-verdict-gt4.false, le-leb _ _ c.if-count-gt-MAX_ENTRIES.false, ← c.entries_fit.ensures, c.if-entries_fit.true) c.room_fits.ensures

-- src/lib.rt:88:1
pub returns : goal.returns
unfolding fitting
returns c = simp (le-leb _ _ c.if-table-lt-TABLE_WORDS.false, le-leb _ _ c.if-bits-position.false, le-leb _ _ c.if-verdict-gt4.false, le-leb _ _ c.if-count-gt-MAX_ENTRIES.false, ← c.entries_fit.ensures, c.if-entries_fit.false)
