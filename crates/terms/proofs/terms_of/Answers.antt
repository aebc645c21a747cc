-- `terms::terms_of` meets its contract. Assumes nothing.
use mathlib.Core.Path.{◌≡◌, sym, ap, ◌∙◌}
use Rattle.digits.specs.Decimal.{number_in}
use Rattle.announcement.specs.declared.Announcement.{Announcement}
use Rattle.announcement.specs.Announcement.{characteristics_in, announcement_of}
use Rattle.rules.specs.Opening.{side_of, characteristics_told, terms_of}
use Rattle.terms.proofs.terms_of.Goals as goal

pub returns : goal.returns
unfolding terms_of
returns c =
    let a = c.args in
    let says : a.a ≡ announcement_of a.m.now = c.requires.m_value.1 in
    let text = c.eleven.ensures ∙ c.bytes_in.ensures.0 in
    let side : a.kind.side ≡ side_of (announcement_of a.m.now).kind = sym (ap side_of c.requires.a_value.0) ∙ ap (λ (x : Announcement). side_of x.kind) says in
    let cutoff = c.unwrap_or.ensures ∙ ap (λ (x : Announcement). number_in x.cutoff) says in
    let numbers : a.c ≡ characteristics_told a.m.now = sym (ap characteristics_in c.requires.a_value.1) ∙ ap (λ (x : Announcement). characteristics_in x.characteristics) says in
    λ admission i.
    record {
      identifier = text i;
      side = side i;
      execution = (numbers i).execution;
      cut_off = cutoff i;
      most = (numbers i).most;
      offered = (numbers i).offered.0;
      minimum = (numbers i).minimum.0;
      increment = (numbers i).increment.0;
      maximum = (numbers i).maximum.0;
      allocation = (numbers i).allocation.0;
      limit = (numbers i).limit.0;
      admission = admission;
    }
