-- What opening a session returns is what its promise says.
-- Assumes nothing.
use mathlib.Core.Path.{◌≡◌, refl, sym, ap, ◌∙◌}
use mathlib.Core.List.{List}
use Prim.Native.Nat.{ℕ}
use Rattle.std.specs.Prelude.{None, Some}
use Rattle.bmap.specs.Plain.{flat}
use Rattle.bmap.specs.Refusal.{refused}
use Rattle.bmap.specs.Domain.{Domain}
use Rattle.bmap.specs.Session.{opened, replayed, standing_sheet, logged_all, layout, opened_on, open_session}
use Rattle.bmap.specs.declared.session.Session.{Session}
use Rattle.domain.specs.Found.{found_in}
use Rattle.domain.proofs.Accepted.{found_ok, found_none}
use Rattle.index.specs.declared.Index.{Index}
use Rattle.index.specs.Index.{domain_of}
use Rattle.session.specs.Calls.{done, emptied}

-- a session of no edit is the layout of a model of no edit
emptied_layout : (d : Domain) → emptied d.agents ≡ layout (opened d)
unfolding layout standing_sheet replayed logged_all flat
emptied_layout d = refl

-- what `index_of` finds of a store
pub opened_15 : (s : List ℕ) → None ≡ found_in s → record { answer = refused 15; session = emptied 0 } ≡ open_session s
unfolding open_session
opened_15 s e = sym (ap opened_on (found_none s (sym e)))

pub opened_got : (s : List ℕ) (x : Index) (t : Session) → Some x ≡ found_in s → t ≡ emptied x.counts.agents → done t ≡ open_session s
unfolding open_session domain_of
opened_got s x t e f = ap done (f ∙ emptied_layout (domain_of s x)) ∙ sym (ap opened_on (found_ok s x (sym e)).domain)

pub ruleset opened_as = (opened_15, opened_got)
