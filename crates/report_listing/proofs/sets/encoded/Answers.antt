use Rattle.report_listing.proofs.sets.encoded.Goals as goal

pub returns : goal.returns
returns c = (c.encode.result, c.encode.ensures)
