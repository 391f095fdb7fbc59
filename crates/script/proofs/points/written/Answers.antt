use Rattle.std.proofs.Common.{◌≡◌, ◌^◌, ◌<◌, Ok, string_bytes, arith}
use Rattle.std.proofs.lemmas.Result.{IfOk-weaker}
use Rattle.script.specs.Numbers.{Hundredths}
use Rattle.script.specs.Only.{Only}
use Rattle.script.specs.Points.{points_text}
use Rattle.script.proofs.Back.{reads_points}
use Rattle.script.proofs.OneReading.{only_reading}
use Rattle.script.proofs.points.written.Goals as goal

pub returns-clause-back : goal.returns-clause-back
returns-clause-back c =
    let n = c.args.p.0 in
    let small : n < 2 ^ 32 = omega arith in
    let reads = only_reading (points_text n) (Ok n) (reads_points n small) in
    IfOk-weaker c.to_string.result (λ s. string_bytes s ≡ points_text n) (λ s. Only (Hundredths (string_bytes s)) (Ok n))
    (λ s e. rw e reads) c.to_string.ensures.ok
