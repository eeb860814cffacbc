use Rattle.std.proofs.Common.{arith, refl, rules, lit≤, lit<}
use Rattle.std.proofs.lemmas.List.Elements.{All-nil, All-cons}
use Rattle.hs_laws.proofs.hosts.hosts_tried.Goals as goal

pub returns-clause-near : goal.returns-clause-near
returns-clause-near c = lit≤ tt

pub returns-clause-far : goal.returns-clause-far
returns-clause-far c h = omega (arith, h)

pub returns-clause-last : goal.returns-clause-last
returns-clause-last c = record {
  fits = record {
    objects_stand = search rules;
    objects_differ = search rules;
    edges_stand = search rules;
    edges_differ = search rules;
    none_dangle = search rules;
    slots_stand = search rules;
    slots_differ = search rules;
    values_fit = search rules;
    objects_fit = search (rules, All-nil, All-cons);
    edges_fit = search rules;
  };
  objects_drawn = lit≤ tt;
  edges_drawn = lit≤ tt;
}

pub returns-clause-used_up : goal.returns-clause-used_up
returns-clause-used_up c h = omega (arith, h.objects_drawn)

pub returns-clause-once : goal.returns-clause-once
returns-clause-once c h = h.fits.objects_differ.0 0 0 (lit< tt) refl
