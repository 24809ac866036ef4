use Rattle.std.proofs.Common.{ap}
use Rattle.sender_receiver.specs.Sending.{SenderState}
use Rattle.sender_receiver.proofs.Fitting.{message_fits}
use Rattle.sender_receiver.proofs.sender.Sender.message.Goals as goal

pub returns-clause-fits : goal.returns-clause-fits
returns-clause-fits g c =
    message_fits c.args.self.now.dc c.self.inside.dc c.get-known.result c.args.aware.now.table c.table-table.result c.in_ok-records.records _
    (ap (λ (s : SenderState). s.dc) c.self.view_is) c.table-table.ensures c.in_ok-records.ensures c.dcs-dcs.ensures.square c.requires.from c.requires.entries c.requires.stock
