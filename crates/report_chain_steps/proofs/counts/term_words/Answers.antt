use Rattle.table_first_follow.proofs.AppliedLaws.{no_terms, few_terms}
use Rattle.report_chain_steps.proofs.counts.term_words.Goals as goal

pub returns-then-n-lt-TERMS_AT : goal.returns-then-n-lt-TERMS_AT
returns-then-n-lt-TERMS_AT c = no_terms c.args.table.now c.if-n-lt-TERMS_AT.true

pub returns-then-n-lt-LITERALS_AT : goal.returns-then-n-lt-LITERALS_AT
returns-then-n-lt-LITERALS_AT c = few_terms c.args.table.now c.if-n-lt-LITERALS_AT.true
