mod LateLemmas
