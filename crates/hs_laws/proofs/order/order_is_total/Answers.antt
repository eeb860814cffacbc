use Rattle.hs_types.proofs.Orders.{IsEarlier-appended, IsEarlier-from_appended}
use Rattle.hs_laws.proofs.Earlier.{IsEarlier-not_itself, IsEarlier-total, IsEarlier-trans}
use Rattle.hs_laws.proofs.order.order_is_total.Goals as goal

pub returns-clause-irreflexive : goal.returns-clause-irreflexive
returns-clause-irreflexive c = IsEarlier-not_itself

pub returns-clause-transitive : goal.returns-clause-transitive
returns-clause-transitive c = IsEarlier-trans

pub returns-clause-total : goal.returns-clause-total
returns-clause-total c = IsEarlier-total

pub returns-clause-one_list : goal.returns-clause-one_list
returns-clause-one_list c x y l = (IsEarlier-appended x y l, IsEarlier-from_appended x y l)
