-- An empty supplement changes nothing. Assumes nothing.
use Prim.Native.Nat.{ℕ, suc}
use mathlib.Core.Path.{◌≡◌, refl, ap, ◌∙◌}
use mathlib.Core.List.{List, [], ◌∷◌, map}
use mathlib.Core.Option.{Option, none}
use lib.IntN.{ℤ}
use lib.Dec.{leb, ltb}
use lib.ListN.{length, get_or, replicate}
use Rattle.bmap.specs.Plain.{maybe, flat}
use Rattle.bmap.specs.Limits.{levels_size}
use Rattle.bmap.specs.Refusal.{Answer, got, refused, need, known, then}
use Rattle.bmap.specs.Line.{Frame}
use Rattle.bmap.specs.Domain.{Domain, Names, Law}
use Rattle.bmap.specs.Store.{frames_in, what_was_read, domain_in}
use Rattle.bmap.specs.Sheet.{sheet_of}
use Rattle.bmap.specs.Judge.{Judged, judge}
use Rattle.bmap.specs.Verdict.{sheet_judged}
use Rattle.bmap.specs.Supplement.{replacement_of, in_force_from, replaced, supplement_from, supplement_in, sheet_judged_under, law_parts, replacement_part, no_part, law_in_force}
use Rattle.domain.proofs.RoundTrip.{no_frames, frames_back}

in_force_none : (n : ℕ) (laws : List Law) → in_force_from [] n laws ≡ laws
unfolding in_force_from replacement_of
in_force_none n [] = refl
in_force_none n (l ∷ laws) = ap (λ (k : List Law). l ∷ k) (in_force_none (suc n) laws)

pub nothing_replaced : (d : Domain) → replaced [] d ≡ d
unfolding replaced
nothing_replaced d = ap (λ (k : List Law). record { agents = d.agents; fluents = d.fluents; knowledge = d.knowledge; entries = d.entries; laws = k }) (in_force_none 0 d.laws)

pub zeros_accepted : (d : Domain) (zeros : ℕ) → supplement_in d (replicate zeros 0) ≡ got []
unfolding supplement_in supplement_from flat
zeros_accepted d zeros = ap (λ (o : Option (List Frame)). known 15 (maybe o none (λ frames. what_was_read (supplement_from d [] (map got frames))))) (frames_back [] zeros no_frames)

-- what the judge answers, and how many states it writes
pub zeros_judged : (store sheet : List ℕ) (levels : List ℤ) (zeros : ℕ) → sheet_judged_under store (replicate zeros 0) sheet levels ≡ sheet_judged store sheet levels
zeros_judged store sheet levels zeros = ap (need (leb levels_size (length levels)) 10) (go (domain_in store))
  where
    by : (d : Domain) (a : Answer (List Names)) → ◌≡◌ {A = Answer Judged} (then a (λ steps. got (judge (replaced [] d) steps))) (then a (λ steps. got (judge d steps)))
    by d (got steps) = ap (λ (e : Domain). got (judge e steps)) (nothing_replaced d)
    by d (refused n) = refl

    go : (a : Answer Domain) → then a (λ d. then (supplement_in d (replicate zeros 0)) (λ s. then (sheet_of d.agents sheet) (λ steps. got (judge (replaced s d) steps))))
        ≡ then a (λ d. then (sheet_of d.agents sheet) (λ steps. got (judge d steps)))
    go (refused n) = refl
    go (got d) = ap (λ a. then a (λ s. then (sheet_of d.agents sheet) (λ steps. got (judge (replaced s d) steps)))) (zeros_accepted d zeros) ∙ by d (sheet_of d.agents sheet)

pub zeros_asked : (store : List ℕ) (zeros n : ℕ)
    → law_in_force store (replicate zeros 0) n ≡ then (domain_in store) (λ d. need (ltb n (length d.laws)) 20 (got (get_or (maybe (frames_in store) [] (law_parts 0)) n no_part)))
unfolding law_in_force replacement_part
zeros_asked store zeros n = go (domain_in store)
  where
    go : (a : Answer Domain) → then a (λ d. then (supplement_in d (replicate zeros 0)) (λ s. need (ltb n (length d.laws)) 20 (got (maybe (replacement_part 0 s n) (get_or (maybe (frames_in store) [] (law_parts 0)) n no_part) (λ part. part)))))
        ≡ then a (λ d. need (ltb n (length d.laws)) 20 (got (get_or (maybe (frames_in store) [] (law_parts 0)) n no_part)))
    go (refused m) = refl
    go (got d) = ap (λ a. then a (λ s. need (ltb n (length d.laws)) 20 (got (maybe (replacement_part 0 s n) (get_or (maybe (frames_in store) [] (law_parts 0)) n no_part) (λ part. part))))) (zeros_accepted d zeros)
