use Rattle.std.proofs.Common.{option_map}
use Rattle.cdx_inventory.specs.Stock.{to_list, answer_to}
use Rattle.cdx_inventory.proofs.Owed.{settled}
use Rattle.cdx_inventory.proofs.serving.CommandRespond.answer.Goals as goal

pub returns-clause-status : goal.returns-clause-status
returns-clause-status c = settled (answer_to (to_list (option_map (λ s. s.now) c.args.self.now.license))) c.args.bytes c.answer_bytes.result c.answer_bytes.ensures
