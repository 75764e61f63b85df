-- Either form has few blocks, so their bytes can be counted.
use Rattle.std.proofs.Common.{arith}
use Rattle.form.proofs.FormLaws.{few_either}
use Rattle.writing.proofs.write_where_room.Goals as goal

pub overflow_mul-bytes : goal.overflow_mul-bytes
overflow_mul-bytes c = omega (arith, few_either c.args.form c.requires.head_limits)
