-- The settings of a step, as the code keeps them: the oldest first.
use Rattle.std.specs.Prelude.{ℕ, zero, suc, List, [], ◌∷◌, ℤ, pos, get_or, Result, Ok, Err}
use Rattle.std.proofs.Math.Option.{Option, some}
use Rattle.bmap.specs.Number.{Valued, value, no_value, with1}
use Rattle.bmap.specs.declared.Reason.TheVariants.{ZeroDivisor}
use Rattle.bmap.specs.Judge.{Checked, fine, fault, Setting}
use Rattle.law.specs.Evaluate.{Meant, malformed, gives}
use Rattle.judge.specs.Answer.{kind_of}
use Rattle.judge.specs.declared.reading.Setting.{Setting as Wanted}
use Rattle.judge.specs.declared.verdict.Breach.{Breach}

abbrev pub setting : ℕ → ℤ → Setting
setting f z = record { fluent = f; level = z }

-- what an expression sets a fluent to; no expression of an accepted law is malformed
abbrev pub setting_from : ℕ → Meant (Valued ℤ) → Valued (Option Setting)
setting_from f malformed = no_value ZeroDivisor
setting_from f (gives v n) = with1 (λ z. value (some (setting f z))) v

-- a setting of the code, and one where there is none
abbrev pub said : Wanted → Setting
said s = setting s.fluent s.level

abbrev pub no_setting : Wanted
no_setting = record { fluent = 0; level = pos 0 }

-- the first m of a list, the newest first
unfoldable pub settings_of : ℕ → List Wanted → List Setting
settings_of zero list = []
settings_of (suc m) list = said (get_or list m no_setting) ∷ settings_of m list

abbrev pub settled_of : Result ℕ Breach → List Wanted → Checked (List Setting)
settled_of (Err b) list = fault (kind_of b.fault) b.number
settled_of (Ok m) list = fine (settings_of m list)
