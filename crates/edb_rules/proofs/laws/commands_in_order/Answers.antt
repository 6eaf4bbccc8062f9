use Rattle.edb_rules.proofs.Commanded.{in_order, at_place, served_is, few_served, all_served}
use Rattle.edb_rules.proofs.laws.commands_in_order.Goals as goal

pub returns : goal.returns
returns c = record {
  console = λ plan journal k e d x legal at is. (in_order plan journal k e d x legal at is).0;
  next = λ plan journal k e d x legal at is. (in_order plan journal k e d x legal at is).1;
  place = at_place;
  count = served_is;
  few = few_served;
  all = all_served;
}
