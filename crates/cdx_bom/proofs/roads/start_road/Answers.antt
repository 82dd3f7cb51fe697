use Rattle.cdx_bom.proofs.roads.start_road.Goals as goal

pub returns : goal.returns
returns c = λ x is. c.fitting.ensures x c.args.version (c.in_ok-bill.ensures x is)
