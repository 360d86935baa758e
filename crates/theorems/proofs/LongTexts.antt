-- The worked cases of K1 with long texts. Assumes nothing.
use mathlib.Core.Path.{refl}
use Rattle.bmap.specs.Cases.{AllHold, long_texts}
use Rattle.bmap.specs.Plain.{text, all, flat, any, numbers, those}
use Rattle.bmap.specs.Number.{bounded, signed_word}
use Rattle.bmap.specs.Tree.{named_e, named_c, allowed_e, allowed_c}
use Rattle.bmap.specs.Meaning.{eval_e, eval_c}
use Rattle.bmap.specs.Code.{code_of, parse_e, parse_c}
use Rattle.bmap.specs.Line.{lines_of, digit, bytes, framed, decode, starts_with}
use Rattle.bmap.specs.Domain.{occurs_in, known_to, readable}
use Rattle.bmap.specs.Payload.{mask_fits, agents_fit, limit_fits, fluent_fits, knowledge_fits, entry_fits, executable_in, effect_in, must_in, law_in, item_in}
use Rattle.bmap.specs.Accept.{in_order, room, fresh, checked, accept, complete, taken_from}
use Rattle.bmap.specs.Sheet.{step_of, steps_from}
use Rattle.bmap.specs.Judge.{each_from, history, holds, carries, placed, permits, permitted, may_occur, sets, settled, level_after, state_after, fits, landed, step, carried, ran, judge}
use Rattle.bmap.specs.Supplement.{replacement_of, supplement_from}
use Rattle.bmap.specs.Program.{digits_of, spaced, split, output, low_water}
use Rattle.bmap.specs.Report.{texts_of, sheets_from, lowest_of, highest_of, sum_of, report}
use Rattle.bmap.specs.River.{p}

pub long_texts_shown : AllHold long_texts
unfolding p text all flat any numbers bounded signed_word named_e named_c allowed_e allowed_c eval_e eval_c code_of parse_e parse_c lines_of digit bytes framed decode occurs_in known_to readable mask_fits agents_fit limit_fits fluent_fits knowledge_fits entry_fits executable_in effect_in must_in law_in item_in in_order room fresh checked accept complete taken_from step_of steps_from each_from history holds carries placed permits permitted may_occur sets settled level_after state_after fits landed step carried ran judge digits_of spaced starts_with split output replacement_of supplement_from low_water those texts_of sheets_from lowest_of highest_of sum_of report
long_texts_shown = (refl, (refl, (refl, (refl, (refl, (refl, (refl, (refl, (refl, (refl, (refl, (refl, tt))))))))))))
