use Rattle.cdx_bom.proofs.push.frame.BillFrameNested.finish.Goals as goal

pub returns-in-Bill-clause-gives : goal.returns-in-Bill-clause-gives
returns-in-Bill-clause-gives c = rw c.in-Bill.is (c.finish_bill.ensures c.args.closed.now.element.now.local_name c.args.closed.now.version c.args.closed.now.place)
