-- An accepted domain for each number of agents: one fluent, one entry of agent 0, which may always occur; and the agents of
-- any accepted domain are 1 to 16.
-- Assumes nothing.
use mathlib.Core.Path.{◌≡◌, refl}
use mathlib.Core.List.{List, [], ◌∷◌}
use Prim.Native.Nat.{ℕ, zero, suc, ◌≤◌}
use native.Mathlib.Omega.{arith}
use lib.IntN.{pos}
use Rattle.bmap.specs.Plain.{any, all, numbers}
use Rattle.bmap.specs.Refusal.{got}
use Rattle.bmap.specs.Number.{signed_word}
use Rattle.bmap.specs.Tree.{allowed_e, allowed_c, always}
use Rattle.bmap.specs.Code.{code_of, parse_e, parse_c}
use Rattle.bmap.specs.Domain.{Domain, executable}
use Rattle.bmap.specs.Payload.{mask_fits, agents_fit, limit_fits, fluent_fits, entry_fits, executable_in, law_in, item_in}
use Rattle.bmap.specs.Accept.{in_order, room, fresh, checked, accept, complete, taken_from}
use Rattle.bmap.specs.Store.{frames_from, frame_at, stands_at, domain_in}
use Rattle.domain.specs.Found.{index_with}
use Rattle.domain.proofs.Accepted.{found_got, found_ok}

-- A1 n; A2 lowest, highest and start 0; A4 name 1, mask 1; A5 entry 0, true
abbrev pub store_for : ℕ → List ℕ
store_for n = 0xA1 ∷ 1 ∷ n ∷ 0xA2 ∷ 6 ∷ 0 ∷ 0 ∷ 0 ∷ 0 ∷ 0 ∷ 0 ∷ 0xA4 ∷ 3 ∷ 1 ∷ 0 ∷ 1 ∷ 0xA5 ∷ 2 ∷ 0 ∷ 0x2A ∷ []

abbrev pub domain_for : ℕ → Domain
domain_for n = record {
  agents = n;
  fluents = record { lowest = pos 0; highest = pos 0; start = pos 0; limit = 0 } ∷ [];
  knowledge = [];
  entries = record { name = 1; crew = 1 } ∷ [];
  laws = executable 0 always ∷ [];
}

pub domain_for_lem : (n : ℕ) → 1 ≤ n → n ≤ 16 → domain_in (store_for n) ≡ got (domain_for n)
unfolding domain_in frames_from frame_at stands_at all any numbers taken_from accept checked in_order room fresh complete item_in agents_fit limit_fits fluent_fits entry_fits mask_fits law_in executable_in parse_c parse_e code_of allowed_c allowed_e signed_word
domain_for_lem zero a b = absurd (omega arith)
domain_for_lem (suc zero) a b = refl
domain_for_lem (suc (suc zero)) a b = refl
domain_for_lem (suc (suc (suc zero))) a b = refl
domain_for_lem (suc (suc (suc (suc zero)))) a b = refl
domain_for_lem (suc (suc (suc (suc (suc zero))))) a b = refl
domain_for_lem (suc (suc (suc (suc (suc (suc zero)))))) a b = refl
domain_for_lem (suc (suc (suc (suc (suc (suc (suc zero))))))) a b = refl
domain_for_lem (suc (suc (suc (suc (suc (suc (suc (suc zero)))))))) a b = refl
domain_for_lem (suc (suc (suc (suc (suc (suc (suc (suc (suc zero))))))))) a b = refl
domain_for_lem (suc (suc (suc (suc (suc (suc (suc (suc (suc (suc zero)))))))))) a b = refl
domain_for_lem (suc (suc (suc (suc (suc (suc (suc (suc (suc (suc (suc zero))))))))))) a b = refl
domain_for_lem (suc (suc (suc (suc (suc (suc (suc (suc (suc (suc (suc (suc zero)))))))))))) a b = refl
domain_for_lem (suc (suc (suc (suc (suc (suc (suc (suc (suc (suc (suc (suc (suc zero))))))))))))) a b = refl
domain_for_lem (suc (suc (suc (suc (suc (suc (suc (suc (suc (suc (suc (suc (suc (suc zero)))))))))))))) a b = refl
domain_for_lem (suc (suc (suc (suc (suc (suc (suc (suc (suc (suc (suc (suc (suc (suc (suc zero))))))))))))))) a b = refl
domain_for_lem (suc (suc (suc (suc (suc (suc (suc (suc (suc (suc (suc (suc (suc (suc (suc (suc zero)))))))))))))))) a b = refl
domain_for_lem (suc (suc (suc (suc (suc (suc (suc (suc (suc (suc (suc (suc (suc (suc (suc (suc (suc m))))))))))))))))) a b = absurd (omega arith)

-- ---- the agents of an accepted domain
pub accepted_agents : (store : List ℕ) (d : Domain) → domain_in store ≡ got d → (1 ≤ d.agents) × (d.agents ≤ 16)
unfolding index_with
accepted_agents store d g = let here = found_ok store _ (found_got store d g) in (here.sound.some_agent, here.sound.agents)
