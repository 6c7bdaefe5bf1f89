use Rattle.booth_conf.proofs.Again.{print_is_read}
use Rattle.booth_conf.proofs.laws.print_is_read.Goals as goal

pub returns : goal.returns
returns c = print_is_read
