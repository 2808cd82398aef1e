mod RealLemmas
