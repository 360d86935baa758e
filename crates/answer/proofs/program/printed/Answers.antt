use Rattle.std.proofs.Common.{◌≡◌, refl, rules}
use Rattle.answer.specs.Answer.{Answered, answered}
use Rattle.answer.proofs.AnsweredLaws.{no_room, answered_put, room_left}
use Rattle.answer.proofs.program.printed.Goals as goal

pub returns-then-out-lt-OUTPUT : goal.returns-then-out-lt-OUTPUT
returns-then-out-lt-OUTPUT g c = λ f puts. no_room _ _ c.if-out-lt-OUTPUT.true

pub ended-requires : goal.ended-requires
ended-requires g c = room_left _ _ _ _ c.if-out-lt-OUTPUT.false (c.requires.puts _ _ _ _ c.put-put.ensures).1

pub returns : goal.returns
returns g c = λ f puts.
    let put = c.ended.ensures.put _ _ (puts _ _ _ _ c.put-put.ensures) in
    let said : ◌≡◌ {A = Answered} (record { count = c.ended.result; buffer = c.ended.new.self.out.now }) (answered (f c.args.input.now) c.args.out.now) = answered_put _ _ c.if-out-lt-OUTPUT.false refl refl put c.ended.ensures.count in
    let same = put.same in
    search rules
