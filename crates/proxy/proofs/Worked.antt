-- The figures, computed.
use Rattle.proxy.specs.Figures.{Figures}
use Rattle.registration.specs.Entering.{lowest_free, proxy_spi}
use Rattle.std.proofs.Common.{refl}

pub figures : Figures
unfolding proxy_spi lowest_free
figures =
    record {
      packets = (refl, refl, refl, refl, refl, refl);
      window = (refl, refl, refl, refl, refl, refl);
      first = refl;
      second = refl;
      last = refl;
      kept = λ x. refl;
      later = λ x. refl;
      stands = λ x. refl;
      gone = λ x. refl;
    }
