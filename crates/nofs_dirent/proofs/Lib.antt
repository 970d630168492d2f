mod OnZeros
