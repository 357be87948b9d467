use Rattle.sonic_owned.proofs.PutLawLemmas.{put_one, put_some}
use Rattle.sonic_owned.proofs.PutLemmas.{put_means}
use Rattle.sonic_owned.proofs.law.putting_means_the_tree.Goals as goal
use Rattle.std.proofs.Common.{refl}

pub returns-clause-means : goal.returns-clause-means
returns-clause-means c = λ path f m g h x y. put_means

pub returns-clause-all : goal.returns-clause-all
returns-clause-all c = λ path f x y. put_some

pub returns-clause-one : goal.returns-clause-one
returns-clause-one c = λ path f m n g h k x y. let same = put_one x y in (same.0, same.1 refl)
