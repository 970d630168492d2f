mod OnCodes
