mod ClaimLaws
